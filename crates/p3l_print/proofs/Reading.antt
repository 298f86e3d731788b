-- The canonical text is a text of the program, where the program has any.
use Rattle.std.proofs.Common.{◌≡◌, ℕ, List, [], ◌∷◌, map, refl, sym, ap, ◌∙◌, subst}
use Rattle.p3l_ast.specs.Tree.{ProgramTree}
use Rattle.p3l_ast.specs.Unplaced.{nowhere, entry_unplaced}
use Rattle.p3l_lexer.specs.declared.token.Lexeme.{Lexeme}
use Rattle.p3l_lexer.specs.declared.token.TextToken.{TextToken}
use Rattle.p3l_lexer.specs.Position.{position_after}
use Rattle.p3l_lexer.proofs.Spelling.{tokens_of}
use Rattle.p3l_grammar.specs.Symbol.{Symbol, word, digits, sign, faulty, symbol, symbol_at, symbols}
use Rattle.p3l_grammar.specs.declared.nest.Nest.{Nest}
use Rattle.p3l_grammar.specs.Limits.{at_rest, after_symbol, IsKept, IsWithin}
use Rattle.p3l_grammar.specs.Written.{Passage, IsText, spell_text, text_tree}
use Rattle.p3l_print.specs.Program.{canonical, IsTextOf}
use Rattle.p3l_print.proofs.Canonical.{canonical_passages, passages_are}
use Rattle.p3l_print.proofs.Unplacing.{canonical_same}
use Rattle.p3l_print.proofs.Placing.{Same, AreSame, derives_alike}
use Rattle.p3l_print.proofs.Writing.{lexeme_of, lexemes_of, AreWritable, Writes}
use Rattle.p3l_print.proofs.Texts.{text_writes, tokens_writable}
use Rattle.p3l_print.proofs.Nesting.{text_within}

-- a token is the symbol that it was written for, but for its position

same_symbol : (s : Symbol) (token : TextToken) → token.lexeme ≡ lexeme_of s → Same s (symbol token)
same_symbol (word x) token h = subst (λ (l : Lexeme). Same (word x) (symbol_at l token.at)) (sym h) refl
same_symbol (digits v p) token h = subst (λ (l : Lexeme). Same (digits v p) (symbol_at l token.at)) (sym h) refl
same_symbol (sign m) token h = subst (λ (l : Lexeme). Same (sign m) (symbol_at l token.at)) (sym h) refl
same_symbol faulty token h = subst (λ (l : Lexeme). Same faulty (symbol_at l token.at)) (sym h) tt

same_symbols : (ss : List Symbol) (tokens : List TextToken) → map (λ t. t.lexeme) tokens ≡ lexemes_of ss → AreSame ss (symbols tokens)
same_symbols [] [] h = tt
same_symbols [] (t ∷ tokens) h = absurd cc
same_symbols (s ∷ ss) [] h = absurd cc
same_symbols (s ∷ ss) (t ∷ tokens) h =
    (same_symbol s t (let p : t.lexeme ≡ lexeme_of s = cc in p), same_symbols ss tokens (let q : map (λ t. t.lexeme) tokens ≡ lexemes_of ss = cc in q))

-- positions do not matter for the limits

same_after : (n : Nest) (s t : Symbol) → Same s t → after_symbol n s ≡ after_symbol n t
same_after n (word x) (word y) h = refl
same_after n (digits v p) (digits w q) h = refl
same_after n (sign m) (sign k) h = ap (λ l. after_symbol n (sign l)) (sym h)
same_after n faulty faulty h = refl
same_after n _ _ h = absurd h

same_within : (n : Nest) (ss ts : List Symbol) → AreSame ss ts → IsWithin n ss → IsWithin n ts
same_within n [] [] h w = tt
same_within n [] (t ∷ ts) h w = absurd h
same_within n (s ∷ ss) [] h w = absurd h
same_within n (s ∷ ss) (t ∷ ts) h w =
    let e = same_after n s t h.0 in
    (subst IsKept e w.0, same_within (after_symbol n t) ss ts h.1 (subst (λ m. IsWithin m ss) e w.1))

-- a text written with the symbols of entries that pass no limit is a text of a program of these entries
pub written_is_text : (program : ProgramTree) (forms : List Passage) → IsText forms → map entry_unplaced (text_tree forms) ≡ map entry_unplaced program.entries
    → Writes (canonical program) (spell_text forms []) → IsWithin at_rest (spell_text forms []) → IsTextOf (canonical program) program
written_is_text program forms proper tree_is writes within =
    let found = tokens_of (canonical program) (lexemes_of (spell_text forms [])) writes in
    let same = same_symbols (spell_text forms []) found.0 found.2 in
    let derived = derives_alike forms (symbols found.0) proper same in
    let kept = same_within at_rest (spell_text forms []) (symbols found.0) same within in
    let entries = derived.same ∙ tree_is in record {
      placed = record { entries = derived.entries; end = position_after (canonical program) };
      spells = record { tokens = found.0; are_tokens = found.1; derives = derived.derives; within = kept; end_is = refl };
      same = λ i. record { entries = entries i; end = nowhere };
    }

pub canonical_is_text : (program : ProgramTree) (bytes : List ℕ) → IsTextOf bytes program → IsTextOf (canonical program) program
canonical_is_text program bytes h =
    let given = h.spells in
    let written = given.derives.written in
    let spelled = given.derives.spelled in
    let forms = canonical_passages written in
    let proper = passages_are written given.derives.is_text in
    let writable : AreWritable (spell_text written []) = subst AreWritable spelled (tokens_writable bytes given.tokens given.are_tokens) in
    let tree : ProgramTree = record { entries = text_tree written; end = h.placed.end } in
    let placed : tree ≡ h.placed = λ i. record { entries = given.derives.tree_is i; end = h.placed.end } in
    let text : canonical program ≡ canonical tree = canonical_same program h.placed (sym h.same) ∙ ap canonical (sym placed) in
    let writes : Writes (canonical program) (spell_text forms []) = subst (λ t. Writes t (spell_text forms [])) (sym text) (text_writes written writable) in
    let within = text_within written given.derives.is_text (subst (IsWithin at_rest) spelled given.within) in
    written_is_text program forms proper.0 (ap (map entry_unplaced) (proper.1 ∙ given.derives.tree_is) ∙ ap (λ p. p.entries) h.same) writes within
