use Rattle.std.proofs.Common.{sym}
use Rattle.frame_arena.proofs.Pages.{length-pages_of, All-pages_of}
use Rattle.frame_arena.proofs.arena.FrameArena.frames.Goals as goal

pub returns-clause-count : goal.returns-clause-count
returns-clause-count c = rw (← c.self.view_is) (sym (length-pages_of c.self.inside.frames c.self.inside.block))

pub returns-clause-pages : goal.returns-clause-pages
returns-clause-pages c = rw (← c.self.view_is) (All-pages_of c.self.inside.frames c.self.inside.block c.self.invariant (rw (← c.as_slice.ensures) c.bytes_are_small.ensures))
