use Rattle.page_table.proofs.Base.{◌≡◌, ◌≤◌, [], length, replicate, with_part, gone_from, Pass, AreOwnKeptOutside, contents_of, sharing_of, used_by}
use Rattle.page_table.proofs.table.Table.remove_all.Given as goal

abbrev pub invariant-loop-number : goal.invariant-loop-number
invariant-loop-number l = record {
  contents : contents_of l.self ≡ with_part (contents_of l.fn.self) l.first (replicate l.number []);
  sharing : (pass : Pass) → sharing_of l.self pass ≡ record (gone_from (sharing_of l.fn.self pass) l.first l.number) { pins = pass.pins };
  used : used_by l.self ≤ used_by l.fn.self;
  arena : length l.self.arena ≡ length l.fn.self.arena;
  kept : AreOwnKeptOutside l.first l.number l.fn.self l.self;
}
