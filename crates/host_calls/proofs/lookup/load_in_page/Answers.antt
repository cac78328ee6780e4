use Rattle.std.proofs.Common.{◌≡◌, ◌∙◌, ◌+◌, ◌*◌, ◌/◌, ◌%◌, ℕ, List, length, ap, arith}
use Rattle.host_types.specs.Bytes.{part_of}
use Rattle.host_types.specs.Pages.{page_bytes}
use Rattle.host_types.specs.declared.shape.Page.{Page}
use Rattle.host_types.proofs.Pages.{part_of-page_bytes}
use Rattle.frame_arena.specs.Pages.{page_at}
use Rattle.page_table.specs.State.{part, map_bytes, bytes_of_map}
use Rattle.host_calls.proofs.lookup.load_in_page.Goals as goal

pub returns : goal.returns
returns c =
    let size : ℕ = length c.args.bytes.now in
    let offset : c.args.at / 4096 * 4096 + c.args.at % 4096 ≡ c.args.at = omega arith in
    c.get.ensures
    ∙ ap (λ (pages : List (List ℕ)). part_of (page_at pages c.entry-entry.result.frame) (c.args.at % 4096) size) c.arena.ensures
    ∙ ap (λ (bytes : List ℕ). part_of bytes (c.args.at % 4096) size) c.entry-entry.ensures.content
    ∙ ap (λ (page : Page). part_of (page_bytes (bytes_of_map c.args.memory.now page) page.number) (c.args.at % 4096) size) c.page_of.ensures
    ∙ part_of-page_bytes (map_bytes (part c.args.memory.now c.args.tenant) c.args.map) (c.args.at / 4096) (c.args.at % 4096) size c.requires.in_page (omega (arith, c.requires.within))
    ∙ ap (λ (at : ℕ). part_of (map_bytes (part c.args.memory.now c.args.tenant) c.args.map) at size) offset
