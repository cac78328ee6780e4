use Rattle.page_table.proofs.Base.{ℕ, ◌≡◌, Bool, if◌then◌else◌, refl, arith, sum_by_more, nat_tests, pages_on}
use mir.Val.{bool_byte}
use Rattle.page_table.proofs.table.count_on.Goals as goal

pub loop-entry-init : goal.loop-entry-init
unfolding pages_on
loop-entry-init c = record { count = refl; few = omega arith }

-- a page counts one where it lies on the frame
one : (b : Bool) (n : ℕ) → n ≡ bool_byte b → n ≡ (if b then 1 else 0)
one b n h1 = grind (arith, nat_tests)

pub loop-entry-preserved : goal.loop-entry-preserved
unfolding pages_on
loop-entry-preserved c = grind (arith, nat_tests, sum_by_more, one)
