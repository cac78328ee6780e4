use Rattle.std.proofs.Common.{◌+◌, option_map, sym, arith}
use Rattle.std.proofs.lemmas.List.{length-map}
use Rattle.reference_sharing.specs.View.{page_of, page_states}
use Rattle.host_types.proofs.Next.{next-none}
use Rattle.reference_sharing.proofs.pages.next_following.Goals as goal

pub returns-else-page_index-pages : goal.returns-else-page_index-pages
returns-else-page_index-pages c =
    let long = length-map c.args.pages.now (option_map page_of) in
    sym (next-none (page_states c.args.pages.now) (c.args.page_index + 1) (omega (arith, long, c.if-page_index-pages.false)))
