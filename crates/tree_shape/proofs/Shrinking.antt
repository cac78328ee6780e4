-- A slot is taken out below a node: what may be resolved then, and what hangs in the end.
use Rattle.std.proofs.Common.{◌≢◌, ℕ, ◌+◌, ◌<◌, ◌≤◌, Bool, List, length, slice_index_or, arith}
use Rattle.tree_shape.specs.declared.Node.{Node}
use Rattle.tree_shape.specs.Shape.{Tree, fork, levels, Holds, IsHung, none, blank}
use Rattle.tree_shape.specs.Turns.{balanced_at}
use Rattle.tree_shape.specs.Removals.{IsShrinking}
use Rattle.tree_shape.specs.Sides.{sided, far, near, AreSidesBy, AreReadyBy}
use Rattle.tree_shape.proofs.Sided.{levels-sided}
use Rattle.tree_shape.proofs.Turning.{even-sided}
use Rattle.tree_shape.proofs.Times.{here, times, times-once, once-times, times-apart}
use Rattle.tree_shape.proofs.Keeping.{holds-frame, away-within, kept-after}
use Rattle.tree_shape.proofs.Standing.{times-sided, parts, sides-by, ready-by}

module _ (s : Bool) (nodes : List Node) (link : ℕ) (t u : Tree) (is : IsShrinking nodes link (sided s (fork link) t u)) where
  abbrev node : Node
  node = slice_index_or nodes link blank

  own : (link ≢ none) × (link < length nodes) × Holds nodes (far s node) t × Holds nodes (near s node) u
  own = parts s nodes link link t u is.sound.holds

  sides-once : (i : ℕ) → times i t + here i link + times i u ≤ 1
  sides-once i = let one = times-sided s i link t u in let most = once-times (sided s (fork link) t u) is.once i in omega (arith, one, most)

  pub shrinking : IsShrinking nodes (far s node) t
  shrinking =
      let all = levels-sided s link t u in
      let low = is.sound.low in
      record {
        sound = record { holds = own.2; even = (even-sided s link t u is.sound.even).2; low = omega (arith, all, low) };
        once = times-once t (λ i. let most = sides-once i in omega (arith, most));
      }

  -- the far side shrank
  module _ (mid : List Node) (root : ℕ) (m : Tree) (hung : IsHung nodes mid root m t) (few : (i : ℕ) → times i m ≤ times i t) (less : levels m ≤ levels t) where
    pub shrunk-sides : AreSidesBy s mid root link (near s node) m u
    shrunk-sides =
        let size = hung.kept.size in
        let inside = own.1 in
        sides-by s mid root link (near s node) m u hung.holds
        (holds-frame nodes mid t (near s node) u hung.kept (times-apart u t (λ i. let most = sides-once i in omega (arith, most))) own.3)
        (omega (arith, size, inside)) own.0 (λ i. let most = sides-once i in let le = few i in omega (arith, most, le))

    pub shrunk-ready : AreReadyBy s mid root link (near s node)
    shrunk-ready =
        let all = levels-sided s link t u in
        let low = is.sound.low in
        ready-by s mid root link (near s node) m u shrunk-sides (omega (arith, all, low, less)) (omega (arith, all, low))

    pub shrunk-hung : (last : List Node) (result : ℕ) → IsHung mid last result (sided s (balanced_at link) m u) (sided s (fork link) m u) → IsHung nodes last result (sided s (balanced_at link) m u) (sided s (fork link) t u)
    shrunk-hung last result turned = record {
      holds = turned.holds;
      kept = kept-after nodes mid last t (sided s (fork link) m u) (sided s (fork link) t u) hung.kept turned.kept
          (λ i. away-within i (sided s (fork link) t u) t (let one = times-sided s i link t u in omega (arith, one)))
          (λ i. away-within i (sided s (fork link) t u) (sided s (fork link) m u) (let one = times-sided s i link t u in let two = times-sided s i link m u in let le = few i in omega (arith, one, two, le)));
    }
