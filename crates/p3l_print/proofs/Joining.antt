-- Texts are taken apart into entries, which can be put together otherwise.
use Rattle.std.proofs.Common.{◌≡◌, ℕ, List, [], ◌∷◌, ◌++◌, map, flat_map, codes, refl, ap, ◌∙◌, subst}
use Rattle.std.specs.List.{AllByRecursion, join_by}
use Rattle.p3l_ast.specs.Tree.{EntryTree, ProgramTree}
use Rattle.p3l_ast.specs.Unplaced.{entry_unplaced}
use Rattle.p3l_lexer.proofs.Spelling.{no_lexemes}
use Rattle.p3l_grammar.specs.Symbol.{Symbol}
use Rattle.p3l_grammar.specs.Limits.{at_rest, IsWithin}
use Rattle.p3l_grammar.specs.Grammar.{Spells}
use Rattle.p3l_grammar.specs.Written.{Passage, IsPassage, IsText, spell_passage, spell_text, passage_tree, text_tree}
use Rattle.p3l_print.specs.Program.{entry_text, canonical, HasText}
use Rattle.p3l_print.proofs.Canonical.{canonical_passage, passage_is}
use Rattle.p3l_print.proofs.Writing.{AreWritable, Writes, put_line}
use Rattle.p3l_print.proofs.Texts.{passage_writes, passage_passes, tokens_writable}
use Rattle.p3l_print.proofs.Nesting.{passage_keeps}
use Rattle.p3l_print.proofs.Reading.{written_is_text}

-- symbols that can be written, and that pass no limit, begin with the entry
pub record IsSpelled (e : EntryTree) : Type 0 where
  pub passage : Passage
  pub rest : List Symbol
  pub proper : IsPassage passage
  pub tree_is : passage_tree passage ≡ e
  pub writable : AreWritable (spell_passage passage rest)
  pub within : IsWithin at_rest (spell_passage passage rest)

passages_spelled : (is : List Passage) → IsText is → AreWritable (spell_text is []) → IsWithin at_rest (spell_text is []) → AllByRecursion IsSpelled (text_tree is)
passages_spelled [] proper writable within = tt
passages_spelled (i ∷ is) proper writable within =
    let rest = spell_text is [] in (
      record { passage = i; rest = rest; proper = proper.0; tree_is = refl; writable = writable; within = within },
      passages_spelled is proper.1 (passage_passes i rest writable) (passage_keeps i rest proper.0 within).leaves,
    )

pub entries_spelled : (bytes : List ℕ) (program : ProgramTree) → Spells bytes program → AllByRecursion IsSpelled program.entries
entries_spelled bytes program s =
    let d = s.derives in
    subst (AllByRecursion IsSpelled) d.tree_is
    (passages_spelled d.written d.is_text (subst AreWritable d.spelled (tokens_writable bytes s.tokens s.are_tokens)) (subst (IsWithin at_rest) d.spelled s.within))

-- entries in their canonical forms, alone and after others
record Joined (es : List EntryTree) : Type 0 where
  forms : List Passage
  proper : IsText forms
  tree_is : text_tree forms ≡ es
  writes : Writes (join_by entry_text (codes "\n") es) (spell_text forms [])
  goes_on : Writes (flat_map (λ e. codes "\n" ++ entry_text e) es) (spell_text forms [])
  within : IsWithin at_rest (spell_text forms [])

joined : (es : List EntryTree) → AllByRecursion IsSpelled es → Joined es
joined [] all = record { forms = []; proper = tt; tree_is = refl; writes = no_lexemes; goes_on = no_lexemes; within = tt }
joined (e ∷ es) all =
    let one : IsSpelled e = all.0 in
    let others = joined es all.1 in
    let is = passage_is one.passage one.proper in
    let forms = canonical_passage one.passage ∷ others.forms in
    let more = flat_map (λ e. codes "\n" ++ entry_text e) es in
    let writes : Writes (entry_text e ++ more) (spell_text forms []) =
    subst (λ x. Writes (entry_text x ++ more) (spell_text forms [])) one.tree_is
    (passage_writes one.passage one.rest (spell_text others.forms []) more one.writable others.goes_on) in
    let tree_is : text_tree forms ≡ e ∷ es = (let p = is.1 in let q = one.tree_is in let r = others.tree_is in cc) in record {
      forms = forms;
      proper = (is.0, others.proper);
      tree_is = tree_is;
      writes = writes;
      goes_on = put_line (entry_text e ++ more) (spell_text forms []) writes;
      within = (passage_keeps one.passage one.rest one.proper one.within).enters (spell_text others.forms []) others.within;
    }

pub joined_has_text : (program : ProgramTree) → AllByRecursion IsSpelled program.entries → HasText program
joined_has_text program all =
    let whole = joined program.entries all in record {
      text = canonical program;
      is_text = written_is_text program whole.forms whole.proper (ap (map entry_unplaced) whole.tree_is) whole.writes whole.within;
    }
