-- The parts in which a module is read, without their places in memory.
use Rattle.p3l_ast.specs.Tree.{inside_tree}
use Rattle.p3l_grammar.specs.Written as written
use Rattle.p3l_reader.specs.declared.module.Heading.{Heading}
use Rattle.p3l_reader.specs.declared.module.Contents.{Contents}

abbrev pub signature_of : Heading → written.Signature
signature_of h = record { at = h.at; ins = h.ins; outs = h.outs }

abbrev pub filling_of : Contents → written.Filling
filling_of f = record { clauses = f.clauses; inside = inside_tree f.inside }
