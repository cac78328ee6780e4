-- Parts of bytes, and parts of these.
use Rattle.std.proofs.Common.{◌≡◌, ℕ, ◌+◌, ◌-◌, ◌<◌, ◌≤◌, ◌∙◌, ap, List, length, slice_index, arith}
use Rattle.std.specs.List.{slice_range}
use Rattle.std.proofs.lemmas.List.Edits.{get_or-between, length-between}
use Rattle.object_file.specs.Numbers.{IsPartOfFile}

pub part_of_range : (whole : List ℕ) (at size : ℕ) → at + size ≤ length whole → IsPartOfFile whole at (slice_range whole at (at + size))
part_of_range whole at size fits =
    let same : length (slice_range whole at (at + size)) ≡ at + size - at = length-between whole at (at + size) fits in
    record {
      within = omega (arith, same);
      each = λ k h. get_or-between whole at (at + size) k 0 (omega (arith, same));
    }

pub part_of_part : (whole middle part : List ℕ) (start at : ℕ) → IsPartOfFile whole start middle → IsPartOfFile middle at part → IsPartOfFile whole (start + at) part
part_of_part whole middle part start at outer inner = record {
  within = omega (arith, outer.within, inner.within);
  each = λ k h.
      let within : at + k < length middle = omega (arith, inner.within) in
      let same : start + (at + k) ≡ start + at + k = omega arith in
      inner.each k h ∙ outer.each (at + k) within ∙ ap (λ (n : ℕ). slice_index whole n) same;
}
