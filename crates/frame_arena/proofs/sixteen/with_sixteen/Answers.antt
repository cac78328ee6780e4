use Rattle.std.proofs.Common.{◌≡◌, take, arith}
use Rattle.std.proofs.lemmas.List.{take_all}
use Rattle.frame_arena.proofs.Fingerprints.{fold-sixteen}
use Rattle.frame_arena.proofs.sixteen.with_sixteen.Goals as goal

pub returns : goal.returns
returns c =
    let loaded : take 16 c.args.bytes.now ≡ c.args.bytes.now = take_all 16 c.args.bytes.now (omega (arith, c.requires)) in
    rw (c.eights_of.ensures, c.fours_of.ensures, loaded) (fold-sixteen c.args.fingerprint c.args.bytes.now c.requires)
