use Rattle.std.proofs.Common.{◌≡◌, false, refl, subst, true}
use Rattle.p3l_stream.specs.Passing.{MayEndLine}
use Rattle.p3l_stream.proofs.PartlyRead.{given_all, reads_blank, reads_filled, reads_none}
use Rattle.p3l_stream.proofs.lines.Lines.pass_read.Goals as goal

pub returns-in-None-clause-ok : goal.returns-in-None-clause-ok
returns-in-None-clause-ok c held so_far piece held_is stands =
    reads_none c.args.self.now c.end_line.new.self c.args.part.now c.end_line.new.part held so_far piece
    (subst (MayEndLine c.args.self.now c.end_line.new.self c.args.part.now c.end_line.new.part) c.in-None.is c.in_ok-end_line.ensures.ok) c.requires held_is stands

pub returns-in-Some-clause-ok : goal.returns-in-Some-clause-ok
returns-in-Some-clause-ok c =
    given_all c.pass_blanks.result _ _ c.pass_blanks.ensures.ok (λ passed is held so_far piece held_is stands.
    reads_blank c.args.self.now c.end_line.new.self c.pass_blanks.new.self c.args.part.now c.end_line.new.part held so_far piece c.in-Some.line passed
    (subst (MayEndLine c.args.self.now c.end_line.new.self c.args.part.now c.end_line.new.part) c.in-Some.is c.in_ok-end_line.ensures.ok) c.requires held_is stands (c.if-is_blank.ensures.0 refl) is)

pub returns-in-Some-2-clause-ok : goal.returns-in-Some-2-clause-ok
returns-in-Some-2-clause-ok c held so_far piece held_is stands =
    reads_filled c.args.self.now c.end_line.new.self c.args.part.now c.end_line.new.part held so_far piece c.in-Some.line
    (subst (MayEndLine c.args.self.now c.end_line.new.self c.args.part.now c.end_line.new.part) c.in-Some.is c.in_ok-end_line.ensures.ok) c.requires held_is stands
    (λ e. let both : false ≡ true = c.if-is_blank.ensures.1 e in cc)
