-- A shift brings the relation's digit down; a word has no digit from 64 on.
use mathlib.Core.Path.{sym}
use Rattle.relations.specs.Sets.{bit}
use Rattle.relations.proofs.Bits.{bit_high}
use borrow.Author.Rules.{rules}
use Rattle.relations.proofs.member.bit.Goals as goal

pub returns-then-r-lt64 : goal.returns-then-r-lt64
unfolding bit
returns-then-r-lt64 c = search rules

pub returns-else-r-lt64 : goal.returns-else-r-lt64
unfolding bit
returns-else-r-lt64 c = record { value = sym (bit_high c.args.set 64 c.args.r (search rules) (search rules)); small = search rules }
