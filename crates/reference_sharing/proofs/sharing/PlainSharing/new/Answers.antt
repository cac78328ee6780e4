use Rattle.std.proofs.Common.{◌≡◌, ◌∙◌, ℕ, replicate, length, [], false, None, sym, ap, option_map, rules}
use Rattle.std.proofs.lemmas.List.{length-map, length-replicate}
use Rattle.reference_sharing.specs.View.{page_of, page_states, sharing_at_rest}
use Rattle.host_types.proofs.Lists.{map-replicate}
use Rattle.reference_sharing.proofs.sharing.PlainSharing.new.Goals as goal

pub returns : goal.returns
returns c =
    let pages : c.in_ok-pages.pages.items ≡ replicate c.args.page_indices None = search rules in
    let pins : c.in_ok-pins.pins.items ≡ replicate c.args.page_indices false = search rules in
    let states : page_states (replicate c.args.page_indices None) ≡ replicate c.args.page_indices None = map-replicate (option_map page_of) c.args.page_indices None in
    let page_indices : replicate c.args.page_indices false ≡ replicate (length (page_states (replicate c.args.page_indices None))) false =
    ap (λ (n : ℕ). replicate n false) (sym (length-map (replicate c.args.page_indices None) (option_map page_of) ∙ length-replicate c.args.page_indices None)) in
    rw (pages, pins, page_indices, c.new.ensures.items, c.new-2.ensures.items) (ap (λ pages. sharing_at_rest pages [] c.args.options) states)
