-- A program that a text spells has few entries, so the checker numbers its modules.
use Rattle.std.proofs.Common.{◌≡◌, ℕ, ◌≤◌, inl, inr, List, [], ◌∷◌, length, Result, Ok, Err, ap, arith}
use Rattle.p3l_ast.specs.declared.refusal.SourceRefusal.{SourceRefusal}
use Rattle.p3l_ast.specs.declared.refusal.SourceRefusal.TheVariants.{At, NoMemory}
use Rattle.p3l_ast.specs.Tree.{ProgramTree}
use Rattle.p3l_grammar.specs.Symbol.{Symbol, symbols}
use Rattle.p3l_grammar.specs.Grammar.{Spells}
use Rattle.p3l_grammar.specs.Written.{Passage, spell_text, text_tree}
use Rattle.p3l_types.specs.Verdict.{Gives}
use Rattle.p3l_check.specs.Many.{GivesUnlessMany}
use Rattle.p3l_body_laws.proofs.Lengths.{passage_longer, symbols_few}

text_few : (is : List Passage) → length (text_tree is) ≤ length (spell_text is [])
text_few [] = omega arith
text_few (i ∷ is) = omega (arith, text_few is, passage_longer i (spell_text is []))

-- a program has no more entries than its text has bytes
pub entries_few : (bytes : List ℕ) (program : ProgramTree) → Spells bytes program → length program.entries ≤ length bytes
entries_few bytes program s =
    let same : length (symbols s.tokens) ≡ length (spell_text s.derives.written []) = ap (length {A = Symbol}) s.derives.spelled in
    let entries : length (text_tree s.derives.written) ≡ length program.entries = ap length s.derives.tree_is in
    omega (arith, text_few s.derives.written, symbols_few bytes s.tokens s.are_tokens, same, entries)

-- so the checker's answer to it is what is meant, unless out of memory
pub gives_few : {A : Type 0} (bytes : List ℕ) (program : ProgramTree) (answer meant : Result A SourceRefusal) → Spells bytes program → length bytes ≤ 1048576 →
    GivesUnlessMany program.entries answer meant → Gives answer meant
gives_few bytes program (Ok x) meant s short h = h
gives_few bytes program (Err (At fault pos)) meant s short h = h
gives_few bytes program (Err NoMemory) meant s short (inl h) = h
gives_few bytes program (Err NoMemory) meant s short (inr many) = absurd (let few = entries_few bytes program s in omega (arith, few, many))
