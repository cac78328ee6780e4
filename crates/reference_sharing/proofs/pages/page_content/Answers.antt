use Rattle.std.proofs.Common.{◌≡◌, ◌-◌, ◌*◌, take, drop, length, min, replicate, ap, ◌∙◌}
use Rattle.reference_sharing.proofs.Lists.{content, bytes_from}
use Rattle.reference_sharing.proofs.pages.page_content.Goals as goal

pub returns : goal.returns
returns c =
    let zeros : c.fill.new.self ≡ replicate 4096 0 = c.fill.ensures.after (λ y e. e) ∙ ap (λ n. replicate n 0) c.requires.size in
    let rest : take (length c.args.bytes.now - c.min.result) (drop c.min.result c.args.bytes.now) ≡ drop (c.args.number * 4096) c.args.bytes.now =
    rw c.min.ensures (bytes_from c.args.bytes.now (c.args.number * 4096)) in
    let size = c.min-size.ensures ∙ ap (λ bytes. min 4096 (length bytes)) rest in
    rw (c.copy_from_slice.ensures.after, zeros, rest, size) (content c.args.bytes.now c.args.number)
