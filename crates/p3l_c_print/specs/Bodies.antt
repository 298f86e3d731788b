-- The text of the functions of all bodies of a program, each after its P3L.
use Rattle.std.specs.Prelude.{ℕ, List, [], ◌∷◌, ◌++◌, codes, slice_index_or}
use Rattle.std.specs.Fmt.{decimal}
use Rattle.p3l_ast.specs.Tree.{Statements}
use Rattle.p3l_skel.specs.declared.tree.Tree.{Tree}
use Rattle.p3l_skel.specs.Tree.{no_module}
use Rattle.p3l_body.specs.Seq.{SeqTree}
use Rattle.p3l_print.specs.Statement.{statements_text}
use Rattle.p3l_c_print.specs.Function.{body_text}

-- the name of a module, empty where the tree has no module of this number
abbrev pub label_of : Tree → ℕ → List ℕ
label_of tree home = (slice_index_or tree.modules home no_module).name

-- the first line of the comment before a function
abbrev pub label_text : List ℕ → ℕ → List ℕ
label_text label home = codes "/* " ++ (label ++ (codes ", module " ++ (decimal home ++ codes ":\n\n")))

-- statements in a comment of C, which they can't end: their text has a space on each side of `*` and of `/`
unfoldable pub comment_text : List ℕ → ℕ → Statements → List ℕ
comment_text label home stmts = label_text label home ++ (statements_text (codes "     ") stmts ++ codes " */\n")

-- the function of a body after its P3L, and an empty line
unfoldable pub one_text : Tree → SeqTree → List ℕ
one_text tree seq = comment_text (label_of tree seq.home) seq.home seq.body ++ (body_text seq ++ codes "\n")

-- the functions of bodies, one after the other
abbrev pub functions_text : Tree → List SeqTree → List ℕ
functions_text tree [] = []
functions_text tree (seq ∷ seqs) = one_text tree seq ++ functions_text tree seqs

-- THE TEXT of the functions of bodies, after an empty line
abbrev pub bodies_text : Tree → List SeqTree → List ℕ
bodies_text tree seqs = codes "\n" ++ functions_text tree seqs
