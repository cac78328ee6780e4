use Rattle.std.proofs.Common.{◌≡◌, ◌∙◌, ◌+◌, ◌*◌, ◌/◌, ◌%◌, ℕ, List, ap, arith}
use Rattle.host_types.specs.Bytes.{number_of, part_of}
use Rattle.host_types.specs.Pages.{page_bytes}
use Rattle.host_types.specs.declared.shape.Page.{Page}
use Rattle.host_types.proofs.Pages.{part_of-page_bytes}
use Rattle.frame_arena.specs.Pages.{page_at}
use Rattle.page_table.specs.State.{part, map_bytes, bytes_of_map}
use Rattle.write_break.proofs.Numbers.{access_in_page}
use Rattle.write_break.proofs.access.load.Goals as goal

pub returns : goal.returns
returns c =
    let in_page = access_in_page c.args.at c.args.size c.requires.size c.requires.aligned in
    let offset : c.args.at / 4096 * 4096 + c.args.at % 4096 ≡ c.args.at = omega arith in
    c.read.ensures
    ∙ ap (λ (pages : List (List ℕ)). number_of (part_of (page_at pages c.entry-entry.result.frame) (c.args.at % 4096) c.args.size)) c.arena.ensures
    ∙ ap (λ (bytes : List ℕ). number_of (part_of bytes (c.args.at % 4096) c.args.size)) c.entry-entry.ensures.content
    ∙ ap (λ (page : Page). number_of (part_of (page_bytes (bytes_of_map c.args.memory.now page) page.number) (c.args.at % 4096) c.args.size)) c.page_of.ensures
    ∙ ap number_of (part_of-page_bytes (map_bytes (part c.args.memory.now c.args.tenant) c.args.map) (c.args.at / 4096) (c.args.at % 4096) c.args.size in_page (omega (arith, c.requires.within)))
    ∙ ap (λ (at : ℕ). number_of (part_of (map_bytes (part c.args.memory.now c.args.tenant) c.args.map) at c.args.size)) offset
