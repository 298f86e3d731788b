use Rattle.std.proofs.Common.{◌≡◌, ap, ◌∙◌}
use Rattle.p3l_units.specs.Table.{Served, leaf}
use Rattle.p3l_compile.specs.Leaves.{body_leaf}
use Rattle.p3l_compile.proofs.Given.{given_ok}
use Rattle.p3l_compile.proofs.Leaves.{same_leaf, have_codes}
use Rattle.p3l_compile.proofs.units.table_of.Goals as goal

pub new-requires-clause-codes : goal.new-requires-clause-codes
new-requires-clause-codes c =
    have_codes c.args.tree.now c.requires.bodies.seqs c.args.codes c.requires.bodies.bodies c.requires.bodies.compiled

pub returns-clause-leaf : goal.returns-clause-leaf
returns-clause-leaf c = λ seqs bodies compiled.
    let same = same_leaf c.args.tree.now seqs c.args.codes bodies compiled in
    given_ok c.new.result _ (λ (table : Served). leaf table ≡ body_leaf c.args.tree.now seqs) (λ x e. ap leaf e ∙ same) c.new.ensures
