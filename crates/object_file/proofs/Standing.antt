-- Texts that stand in a file.
use Rattle.std.proofs.Common.{◌≡◌, ℕ, ◌+◌, ◌%◌, ◌<◌, ◌≤◌, ◌∙◌, List, [], ◌∷◌, ◌++◌, All, length, slice_index, arith}
use Rattle.std.proofs.Math.Seq.{drop-append_seam, take-append_seam}
use Rattle.std.proofs.lemmas.List.Elements.{All-drop, All-head, All-take}
use Rattle.object_file.proofs.Parts.{part_of_part}
use Rattle.object_file.specs.Numbers.{IsPartOfFile}
use Rattle.object_file.specs.Texts.{IsBeside, IsFilled}
use Rattle.object_file.specs.Programs.{IsTextOf}
use Rattle.object_file.specs.declared.relocation.Filled.{Filled}
use Rattle.object_file.specs.declared.text.Text.{Text}

-- what stood in the file before a wide instruction was filled in stands there beside it
pub kept_by_fill : (file before after : List ℕ) (begin at : ℕ) (filled : List ℕ) (with : Filled) → IsFilled before after at with
    → ((k : ℕ) → k < length before → All (λ a. IsBeside a k) filled → slice_index before k ≡ slice_index file (begin + k))
    → (k : ℕ) → k < length after → All (λ a. IsBeside a k) (filled ++ at ∷ []) → slice_index after k ≡ slice_index file (begin + k)
kept_by_fill file before after begin at filled with is stood k h beside =
    let P : ℕ → Type 0 = λ a. IsBeside a k in
    let front = rw (take-append_seam filled (at ∷ [])) at (All-take P (length filled) (filled ++ at ∷ []) beside) in
    let back = rw (drop-append_seam filled (at ∷ [])) at (All-drop P (length filled) (filled ++ at ∷ []) beside) in
    is.others_kept k (All-head P at [] back) ∙ stood k (omega (arith, is.same_length)) front

pub text_filled : (file : List ℕ) (before after : Text) (at : ℕ) (with : Filled) → IsFilled before.bytes.items after.bytes.items at with
    → after.begin ≡ before.begin → after.filled.items ≡ before.filled.items ++ at ∷ [] → IsTextOf file before → IsTextOf file after
text_filled file before after at with is begin filled stands = record {
  some = omega (arith, is.same_length, stands.some);
  slots = rw is.same_length stands.slots;
  short = omega (arith, is.same_length, stands.short);
  within = omega (arith, is.same_length, stands.within, begin);
  others_kept = rw (begin, filled) (kept_by_fill file before.bytes.items after.bytes.items before.begin at before.filled.items with is stands.others_kept);
}

pub text_same : (file : List ℕ) (before after : Text) → after.bytes.items ≡ before.bytes.items → after.begin ≡ before.begin
    → after.filled.items ≡ before.filled.items → IsTextOf file before → IsTextOf file after
text_same file before after bytes begin filled stands = record {
  some = rw bytes stands.some;
  slots = rw bytes stands.slots;
  short = rw bytes stands.short;
  within = rw (bytes, begin) stands.within;
  others_kept = rw (bytes, begin, filled) stands.others_kept;
}

pub text_fresh : (file contents bytes : List ℕ) (start begin : ℕ) (text : Text) → IsPartOfFile file start contents → IsPartOfFile contents begin bytes
    → text.bytes.items ≡ bytes → text.begin ≡ start + begin → 1 ≤ length bytes → length bytes % 8 ≡ 0 → length bytes ≤ 32768
    → IsTextOf file text
text_fresh file contents bytes start begin text outer inner is at some slots short =
    let part : IsPartOfFile file (start + begin) bytes = part_of_part file contents bytes start begin outer inner in
    record {
      some = rw is some;
      slots = rw is slots;
      short = rw is short;
      within = rw (is, at) part.within;
      others_kept = rw (is, at) (λ k h beside. part.each k h);
    }
