use Rattle.std.proofs.Common.{◌≡◌, ℕ, List, sym, subst, rules}
use Rattle.p3l_ast.specs.Tree.{program_tree}
use Rattle.p3l_print.specs.Program.{canonical, IsTextOf}
use Rattle.p3l_print.proofs.Entries.{entries_text}
use Rattle.p3l_print.proofs.Reading.{canonical_is_text}
use Rattle.p3l_print.proofs.program.print.Goals as goal

pub returns-clause-spells : goal.returns-clause-spells
returns-clause-spells c =
    let tree = program_tree c.args.program.now in
    let text : c.finish.result ≡ canonical tree = search (rules, entries_text) in
    λ other h. subst (λ (t : List ℕ). IsTextOf t tree) (sym text) (canonical_is_text tree other h)
