-- A memory without maps.
use Rattle.page_table.proofs.Base.{◌≡◌, ◌*◌, replicate, None, arith, rules, nat_tests, length-map, length-replicate, ℕ, zero, suc, List, ◌∷◌, drop, Option, option_map, refl, ap, sum_by-replicate, unreserved_tenant, new_pass, Options, map-replicate, Entry, AreLimits, new_memory, TableState, contents_of, groups_of, own_pages, state_of, maps_of, view_of}
use Rattle.page_table.proofs.Maps.{part-at}
use Rattle.page_table.proofs.Entries.{all_same, empty_table}
use Rattle.page_table.proofs.Pinning.{runs-new}
use Rattle.page_table.proofs.memory.Memory.without_maps.Goals as goal

no_maps : (n : ℕ) (contents : List (List ℕ)) → maps_of (replicate n None) contents ≡ replicate n None
unfolding maps_of
no_maps zero contents = refl
no_maps (suc n) contents = ap (λ l. None ∷ l) (no_maps n (drop 256 contents))

module _ (frames tenants : ℕ) (options : Options) (limits : AreLimits frames tenants) where
  abbrev table : TableState
  table = empty_table frames (tenants * 2048)

  view_new : view_of table (replicate (tenants * 8) None) (replicate tenants unreserved_tenant) (new_pass frames (tenants * 2048) options) ≡ new_memory frames tenants options
  unfolding view_of groups_of new_memory
  view_new = rw (no_maps (tenants * 8) (contents_of table), map-replicate {X = Option Entry} (option_map state_of) (tenants * 2048) None, map-replicate {X = Option Entry} (option_map (λ (entry : Entry). entry.frame)) (tenants * 2048) None) refl

shapes : (c : goal.In_ok-table) → c.in_ok-shapes.shapes.items ≡ replicate (c.args.tenants * 8) None
shapes c = search rules

tenants : (c : goal.In_ok-table) → c.in_ok-tenants.tenants.items ≡ replicate c.args.tenants unreserved_tenant
tenants c = search rules

started : (c : goal.In_ok-table) → c.in_ok-pass.pass ≡ new_pass c.args.frames (c.args.tenants * 2048) c.args.options
started c = grind (arith, nat_tests)

pub invariant_of-result : goal.invariant_of-result
unfolding contents_of own_pages
invariant_of-result c = grind (arith, nat_tests, shapes c, tenants c, length-replicate, map-replicate, sum_by-replicate, all_same, part-at, started c, length-map, runs-new c.args.tenants (c.args.tenants * 2048))

pub returns : goal.returns
returns c = rw (c.in_ok-table.ensures, started c, shapes c, tenants c) (view_new c.args.frames c.args.tenants c.args.options c.requires)
