use Rattle.std.proofs.Common.{◌≡◌, ◌∙◌, ◌⊎◌, inl, inr, ⊎_elim, ℕ, ◌+◌, ◌%◌, ◌<◌, ◌≤◌, ◌==◌, true, List, [], ◌∷◌, length, refl, sym, ap, subst, arith}
use Rattle.std.proofs.lemmas.Bool.Decides.{nat_tests}
use Rattle.host_types.specs.Sharing.{Sharing, break_cost}
use Rattle.host_types.specs.Pins.{broken_for_run}
use Rattle.host_types.specs.Tenant.{TenantPart}
use Rattle.page_table.specs.State.{part, map_bytes}
use Rattle.write_break.specs.Stores.{page_of_byte, stored_sharing, store_frames, IsStored}
use Rattle.write_break.proofs.Stores.{stored-none, stored-more, sharing-one, cost-one, cost-more}
use Rattle.write_break.proofs.access.store_bytes_as.Goals as goal
use Rattle.write_break.proofs.access.store_bytes_as.Goals.{After-split_at}

nothing : (bytes : List ℕ) → (length bytes == 0) ≡ true → bytes ≡ []
nothing [] e = refl
nothing (byte ∷ bytes) e = absurd (grind (arith, nat_tests))

-- the bytes that are left are all in the page, or go up to its end
whole : (c : After-split_at) → (length c.split_at.result.1.now ≡ 0) ⊎ (c.loop-rest.offset % 4096 + c.size_in_page-size.result ≡ 4096)
whole c = ⊎_elim (λ all. inl (omega (arith, all, c.split_at.ensures.back_len))) (λ ends. inr ends) c.size_in_page-size.ensures.all

-- what is left to store takes what the first page takes, and the others
cost : (c : After-split_at) → store_frames c.loop-rest.memory.sharing c.args.tenant c.args.map c.loop-rest.offset (length c.loop-rest.rest.now)
    ≡ break_cost c.loop-rest.memory.sharing (page_of_byte c.args.tenant c.args.map c.loop-rest.offset)
    + store_frames (broken_for_run c.args.is_pinned c.loop-rest.memory.sharing (page_of_byte c.args.tenant c.args.map c.loop-rest.offset)) c.args.tenant c.args.map (c.loop-rest.offset + c.size_in_page-size.result) (length c.split_at.result.1.now)
cost c =
    let parts : length c.loop-rest.rest.now ≡ c.size_in_page-size.result + length c.split_at.result.1.now = omega (arith, c.split_at.ensures.back_len) in
    ap (store_frames c.loop-rest.memory.sharing c.args.tenant c.args.map c.loop-rest.offset) parts
    ∙ cost-more c.loop-rest.memory.sharing c.args.tenant c.args.map c.loop-rest.offset c.size_in_page-size.result c.size_in_page-size.ensures.some c.size_in_page-size.ensures.in_page c.args.is_pinned (length c.split_at.result.1.now) (whole c)

first_cost : (c : After-split_at) → store_frames c.loop-rest.memory.sharing c.args.tenant c.args.map c.loop-rest.offset (length c.split_at.result.0.now)
    ≡ break_cost c.loop-rest.memory.sharing (page_of_byte c.args.tenant c.args.map c.loop-rest.offset)
first_cost c =
    ap (store_frames c.loop-rest.memory.sharing c.args.tenant c.args.map c.loop-rest.offset) c.split_at.ensures.front_len
    ∙ cost-one c.loop-rest.memory.sharing c.args.tenant c.args.map c.loop-rest.offset c.size_in_page-size.result c.size_in_page-size.ensures.some c.size_in_page-size.ensures.in_page

pub store_in_page-requires-clause-room : goal.store_in_page-requires-clause-room
store_in_page-requires-clause-room c =
    let all = cost (goal.at.store_in_page-requires-clause-room c).After-split_at in
    let first = first_cost (goal.at.store_in_page-requires-clause-room c).After-split_at in
    omega (arith, all, first, c.loop-rest.invariant.room)

pub loop-rest-preserved : goal.loop-rest-preserved
loop-rest-preserved c =
    let here = (goal.at.loop-rest-preserved c).After-split_at in
    let all = cost here in
    let first = first_cost here in
    let long = c.split_at.ensures.front_len in
    let broken_one = c.store_in_page.ensures.sharing
    ∙ ap (stored_sharing c.args.is_pinned c.loop-rest.memory.sharing c.args.tenant c.args.map c.loop-rest.offset) long
    ∙ sharing-one c.loop-rest.memory.sharing c.args.tenant c.args.map c.loop-rest.offset c.size_in_page-size.result c.size_in_page-size.ensures.some c.size_in_page-size.ensures.in_page c.args.is_pinned in
    let later = ap (λ (s : Sharing). store_frames s c.args.tenant c.args.map (c.loop-rest.offset + c.size_in_page-size.result) (length c.split_at.result.1.now)) broken_one in
    let some : 0 < length c.split_at.result.0.now = omega (arith, long, c.size_in_page-size.ensures.some) in
    let in_page : c.loop-rest.offset % 4096 + length c.split_at.result.0.now ≤ 4096 = omega (arith, long, c.size_in_page-size.ensures.in_page) in
    let within : c.loop-rest.offset + length c.split_at.result.0.now ≤ length (map_bytes (part c.loop-rest.memory c.args.tenant) c.args.map) = omega (arith, long, c.loop-rest.invariant.within, c.split_at.ensures.back_len) in
    let ends = subst (λ (n : ℕ). (length c.split_at.result.1.now ≡ 0) ⊎ (c.loop-rest.offset % 4096 + n ≡ 4096)) (sym long) (whole here) in
    record {
      small = omega (arith, c.loop-rest.invariant.small, c.split_at.ensures.back_len);
      within = omega (arith, c.loop-rest.invariant.within, c.split_at.ensures.back_len, c.store_in_page.ensures.sized);
      room = omega (arith, later, all, first, c.loop-rest.invariant.room, c.store_in_page.ensures.have);
      run = λ is. ap (λ (owned : TenantPart). owned.running) c.store_in_page.ensures.written ∙ c.loop-rest.invariant.run is;
      same_end = λ end rest.
          c.loop-rest.invariant.same_end end
          (subst (IsStored c.args.is_pinned c.loop-rest.memory end c.args.tenant c.args.map c.loop-rest.offset) (sym c.split_at.ensures.by_index.0)
          (stored-more c.args.is_pinned c.loop-rest.memory c.store_in_page.new.memory end c.args.tenant c.args.map c.loop-rest.offset c.split_at.result.0.now c.split_at.result.1.now some in_page ends within c.store_in_page.ensures
          (subst (λ (n : ℕ). IsStored c.args.is_pinned c.store_in_page.new.memory end c.args.tenant c.args.map (c.loop-rest.offset + n) c.split_at.result.1.now) (sym long) rest)));
    }

stored : (c : goal.After-loop-rest) → IsStored c.args.is_pinned c.args.memory.now c.loop-rest.memory c.args.tenant c.args.map c.args.at c.args.bytes.now
stored c =
    let none = nothing c.loop-rest.rest.now (sym c.is_empty.ensures ∙ c.loop-rest-test.false) in
    c.loop-rest.invariant.same_end c.loop-rest.memory
    (subst (IsStored c.args.is_pinned c.loop-rest.memory c.loop-rest.memory c.args.tenant c.args.map c.loop-rest.offset) (sym none) (stored-none c.args.is_pinned c.loop-rest.memory c.args.tenant c.args.map c.loop-rest.offset))

pub returns : goal.returns
returns c = stored c
