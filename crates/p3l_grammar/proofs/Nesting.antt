-- The nesting after a list of tokens, token by token.
use Rattle.std.proofs.Common.{◌≡◌, ℕ, suc, ◌+◌, ◌<◌, ◌≤◌, List, [], ◌∷◌, ◌++◌, length, take, get_or, refl, ap, ◌∙◌, sym, subst}
use Rattle.std.proofs.Math.Seq.{take-suc}
use Rattle.p3l_lexer.specs.declared.token.TextToken.{TextToken}
use Rattle.p3l_grammar.specs.declared.nest.Nest.{Nest}
use Rattle.p3l_grammar.specs.Symbol.{Symbol, symbol, symbols}
use Rattle.p3l_grammar.specs.Limits.{at_rest, after_symbol, nest_after, IsKept, IsWithin}
use Rattle.p3l_grammar.proofs.Exact.{symbols_append}

pub nest_snoc : (ts : List Symbol) (t : Symbol) (n : Nest) → nest_after n (ts ++ t ∷ []) ≡ after_symbol (nest_after n ts) t
nest_snoc [] t n = refl
nest_snoc (x ∷ ts) t n = nest_snoc ts t (after_symbol n x)

within_snoc : (ts : List Symbol) (t : Symbol) (n : Nest) → IsWithin n ts → IsKept (after_symbol (nest_after n ts) t) → IsWithin n (ts ++ t ∷ [])
within_snoc [] t n h k = (k, tt)
within_snoc (x ∷ ts) t n h k = (h.0, within_snoc ts t (after_symbol n x) h.1 k)

pub symbols_more : (ts : List TextToken) (i : ℕ) (d : TextToken) → i < length ts → symbols (take (suc i) ts) ≡ symbols (take i ts) ++ symbol (get_or ts i d) ∷ []
symbols_more ts i d h = ap symbols (take-suc ts i d h) ∙ symbols_append (take i ts) (get_or ts i d ∷ [])

pub nest_more : (ts : List TextToken) (i : ℕ) (d : TextToken) → i < length ts → nest_after at_rest (symbols (take (suc i) ts)) ≡ after_symbol (nest_after at_rest (symbols (take i ts))) (symbol (get_or ts i d))
nest_more ts i d h =
    ap (nest_after at_rest) (symbols_more ts i d h) ∙ nest_snoc (symbols (take i ts)) (symbol (get_or ts i d)) at_rest

pub within_more : (ts : List TextToken) (i : ℕ) (d : TextToken) → i < length ts → IsWithin at_rest (symbols (take i ts)) → IsKept (after_symbol (nest_after at_rest (symbols (take i ts))) (symbol (get_or ts i d))) → IsWithin at_rest (symbols (take (suc i) ts))
within_more ts i d h w k =
    let P : List Symbol → Type 0 = λ q. IsWithin at_rest q in
    subst P (sym (symbols_more ts i d h)) (within_snoc (symbols (take i ts)) (symbol (get_or ts i d)) at_rest w k)
