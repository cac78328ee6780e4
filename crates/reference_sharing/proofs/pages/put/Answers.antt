use Rattle.std.proofs.Common.{option_map, sym, arith}
use Rattle.std.proofs.lemmas.List.{set_past, map-set, length-map}
use Rattle.reference_sharing.specs.View.{page_of, page_states}
use Rattle.reference_sharing.proofs.pages.put.Goals as goal

pub returns-then-page_index-pages : goal.returns-then-page_index-pages
returns-then-page_index-pages c = map-set (option_map page_of) c.args.pages.now c.args.page_index c.args.page

pub returns-else-page_index-pages : goal.returns-else-page_index-pages
returns-else-page_index-pages c =
    let long = length-map c.args.pages.now (option_map page_of) in
    sym (set_past (page_states c.args.pages.now) c.args.page_index (option_map page_of c.args.page) (omega (arith, long, c.if-page_index-pages.false)))
