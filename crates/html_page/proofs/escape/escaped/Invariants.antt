use Rattle.std.proofs.Common.{All}
use Rattle.html_page.specs.Inert.{IsInert}
use Rattle.html_page.proofs.escape.escaped.Given as goal

abbrev pub invariant-loop-c : goal.invariant-loop-c
invariant-loop-c l = All IsInert l.escaped.items
