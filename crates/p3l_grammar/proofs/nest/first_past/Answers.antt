use Rattle.std.proofs.Common.{◌≡◌, ◌≤◌, ◌<◌, ◌+◌, ℕ, suc, Bool, true, false, IsTrue, ◌↔◌, refl, List, length, take, get_or, ap, ◌∙◌, sym, subst, add-one}
use Rattle.p3l_lexer.specs.declared.token.TextToken.{TextToken}
use Rattle.p3l_grammar.specs.declared.nest.Nest.{Nest}
use Rattle.p3l_grammar.specs.Symbol.{symbol, symbols}
use Rattle.p3l_grammar.specs.Limits.{at_rest, after_symbol, nest_after, IsKept}
use Rattle.p3l_grammar.proofs.Nesting.{nest_more, within_more}
use Rattle.p3l_grammar.proofs.nest.first_past.Goals as goal

not_kept : (b : Bool) (n : Nest) → IsTrue b ↔ IsKept n → b ≡ false → IsKept n → ⊥
not_kept true n h p k = absurd (cc)
not_kept false n h p k = (let q = h.1 k in absurd cc)

is_kept : (b : Bool) (n : Nest) → IsTrue b ↔ IsKept n → b ≡ true → IsKept n
is_kept true n h p = h.0 refl
is_kept false n h p = absurd (cc)

-- the nest after one more token is that of the longer front
leads : (n : Nest) (ts : List TextToken) (i : ℕ) (t : TextToken) → n ≡ nest_after at_rest (symbols (take i ts)) → t ≡ get_or ts i t → i < length ts → after_symbol n (symbol t) ≡ nest_after at_rest (symbols (take (suc i) ts))
leads n ts i t p q h =
    ap (λ m. after_symbol m (symbol t)) p
    ∙ ap (λ x. after_symbol (nest_after at_rest (symbols (take i ts))) (symbol x)) q
    ∙ sym (nest_more ts i t h)

pub returns-then-not-is_kept-clause-past : goal.returns-then-not-is_kept-clause-past
returns-then-not-is_kept-clause-past c = λ k.
    let e = c.after-nest.ensures ∙ leads _ c.args.tokens.now c.loop-i.i c.index-tokens-i.result c.loop-i.invariant.counted c.index-tokens-i.is c.loop-i-test.true in
    let P : Nest → Type 0 = λ m. IsKept m in
    not_kept c.is_kept.result c.after-nest.result c.is_kept.ensures c.if-not-is_kept.true (subst P (sym e) k)

pub loop-i-preserved : goal.loop-i-preserved
loop-i-preserved c =
    let ts = c.args.tokens.now in
    let t = c.index-tokens-i.result in
    let i = c.loop-i.i in
    let e = c.after-nest.ensures ∙ leads _ ts i t c.loop-i.invariant.counted c.index-tokens-i.is c.loop-i-test.true in
    let k : IsKept c.after-nest.result = is_kept c.is_kept.result c.after-nest.result c.is_kept.ensures c.if-not-is_kept.false in
    let P : Nest → Type 0 = λ m. IsKept m in
    let k' = subst P (e ∙ nest_more ts i t c.loop-i-test.true) k in
    record {
      counted = rw add-one e;
      kept = k;
      within = rw add-one (within_more ts i t c.loop-i-test.true c.loop-i.invariant.within k');
    }
