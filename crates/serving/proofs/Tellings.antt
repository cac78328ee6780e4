-- Lines that are written one after the other.
use Rattle.std.proofs.Common.{◌≡◌, ◌∙◌, ℕ, Bool, ◌||◌, List, [], ◌∷◌, ◌++◌, Option, append_assoc, append-nil, sym, ap, refl, subst}
use Rattle.std.specs.Io.KnownBytes.{Appends}
use Rattle.engines.proofs.Noting.{Appends-none, Appends-join, or-assoc, or-false}
use Rattle.serving.specs.Report.{Telling, HasWritten, printed_text, prints_refusal, all_printed, print_refusal}

-- what is written of two lists
all-join : (first rest : List Telling) → all_printed (first ++ rest) ≡ all_printed first ++ all_printed rest
all-join [] rest = refl
all-join (report ∷ first) rest = ap (λ xs. printed_text report ++ xs) (all-join first rest) ∙ sym (append_assoc (printed_text report) (all_printed first) (all_printed rest))

-- the refusals of two lists
refusal-join : (first rest : List Telling) → print_refusal (first ++ rest) ≡ (print_refusal first || print_refusal rest)
refusal-join [] rest = refl
refusal-join (report ∷ first) rest = ap (λ b. prints_refusal report || b) (refusal-join first rest) ∙ sym (or-assoc (prints_refusal report) (print_refusal first) (print_refusal rest))

-- nothing was written
pub printed-none : (refused : Bool) (known : Option (List ℕ)) → HasWritten [] refused refused known known
printed-none refused known = record { refused = sym (or-false refused); written = Appends-none known }

-- one line was written
pub printed-one : (report : Telling) (before after : Bool) (was is : Option (List ℕ)) → after ≡ (before || prints_refusal report) → Appends was is (printed_text report)
    → HasWritten (report ∷ []) before after was is
printed-one report before after was is noted written = record {
  refused = noted ∙ ap (λ b. before || b) (sym (or-false (prints_refusal report)));
  written = rw (append-nil) written;
}

-- some lines and then others
pub printed-join : (first rest : List Telling) (before mid_way after : Bool) (was half is : Option (List ℕ))
    → HasWritten first before mid_way was half → HasWritten rest mid_way after half is → HasWritten (first ++ rest) before after was is
printed-join first rest before mid_way after was half is one two = record {
  refused = two.refused ∙ ap (λ b. b || print_refusal rest) one.refused
      ∙ or-assoc before (print_refusal first) (print_refusal rest) ∙ ap (λ b. before || b) (sym (refusal-join first rest));
  written = rw (all-join first rest) (Appends-join was half is (all_printed first) (all_printed rest) one.written two.written);
}

-- some lines were written, and the rest of them are to follow
pub record IsPrintedUpTo (all rest : List Telling) (before after : Bool) (was is : Option (List ℕ)) : Type 0 where
  pub printed : List Telling
  pub written : HasWritten printed before after was is
  pub follows : printed ++ rest ≡ all

pub upto-none : (all rest : List Telling) (refused : Bool) (was : Option (List ℕ)) → rest ≡ all → IsPrintedUpTo all rest refused refused was was
upto-none all rest refused was same = record { printed = []; written = printed-none refused was; follows = same }

-- more of them were written
pub upto-more : (all rest more later : List Telling) (before mid_way after : Bool) (was half is : Option (List ℕ)) → rest ≡ more ++ later
    → HasWritten more mid_way after half is → IsPrintedUpTo all rest before mid_way was half → IsPrintedUpTo all later before after was is
upto-more all rest more later before mid_way after was half is parts written so_far = record {
  printed = so_far.printed ++ more;
  written = printed-join so_far.printed more before mid_way after was half is so_far.written written;
  follows = append_assoc so_far.printed more later ∙ ap (λ xs. so_far.printed ++ xs) (sym parts) ∙ so_far.follows;
}

-- one more was written
pub upto-next : (all rest later : List Telling) (report : Telling) (before mid_way after : Bool) (was half is : Option (List ℕ)) → rest ≡ report ∷ later
    → after ≡ (mid_way || prints_refusal report) → Appends half is (printed_text report) → IsPrintedUpTo all rest before mid_way was half → IsPrintedUpTo all later before after was is
upto-next all rest later report before mid_way after was half is parts noted written so_far =
    upto-more all rest (report ∷ []) later before mid_way after was half is parts (printed-one report mid_way after half is noted written) so_far

-- nothing of it was to be reported
pub upto-on : (all rest later : List Telling) (before after : Bool) (was is : Option (List ℕ)) → rest ≡ later → IsPrintedUpTo all rest before after was is → IsPrintedUpTo all later before after was is
upto-on all rest later before after was is same so_far = subst (λ xs. IsPrintedUpTo all xs before after was is) same so_far

-- all of it
pub upto-all : (all rest : List Telling) (before after : Bool) (was is : Option (List ℕ)) → rest ≡ [] → IsPrintedUpTo all rest before after was is → HasWritten all before after was is
upto-all all rest before after was is none so_far =
    subst (λ xs. HasWritten xs before after was is) (sym (append-nil so_far.printed) ∙ ap (λ xs. so_far.printed ++ xs) (sym none) ∙ so_far.follows) so_far.written
