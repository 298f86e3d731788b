-- A rescue number without a minus is read as a number.
use Rattle.std.proofs.Common.{◌≡◌, suc, List, [], ◌∷◌, length, false, refl, ap, ◌∙◌}
use Rattle.p3l_ast.specs.declared.expression.BinOp.TheVariants as ops
use Rattle.p3l_ast.specs.declared.module.Rescue.{Rescue}
use Rattle.p3l_lexer.specs.declared.mark.Mark.TheVariants as marks
use Rattle.p3l_lexer.specs.declared.token.TextToken.{TextToken}
use Rattle.p3l_grammar.specs.Symbol.{Symbol, symbol, word, digits, sign}
use Rattle.p3l_grammar.specs.Parser.{Parser, all, any_num, any_rescue, next, num_step, rescue_step}
use Rattle.p3l_reader.specs.declared.refusal.Refusal.{Refusal}
use Rattle.p3l_reader.specs.declared.refusal.Refusal.TheVariants.{NoMemory, Expected}
use Rattle.p3l_reader.specs.Reading.{NotNext, Fails}

-- a step at a symbol that is no minus
as_num : (s : Symbol) (go : Rescue → Parser) → (s ≡ sign (marks.Operator ops.Sub) → ⊥) →
    rescue_step s go ≡ num_step s (λ n. go (record { minus = false; num = n }))
as_num (digits v p) go h = refl
as_num (word x) go h = refl
as_num (sign (marks.Operator ops.Sub)) go h = absurd (h refl)
as_num _ go h = refl

-- and all steps from there
pub plain_rescue : (ts : List TextToken) → NotNext (marks.Operator ops.Sub) ts → (go : Rescue → Parser) →
    all (any_rescue go) ts ≡ all (any_num (λ n. go (record { minus = false; num = n }))) ts
plain_rescue [] h go = refl
plain_rescue (t ∷ ts) h go = ap (λ o. next o (suc (length ts)) (λ s'. all s' ts)) (as_num (symbol t) go h)

pub plain_fails : (ts : List TextToken) (e : Refusal) → NotNext (marks.Operator ops.Sub) ts → Fails any_num ts e → Fails any_rescue ts e
plain_fails ts NoMemory h f = f
plain_fails ts (Expected left) h f = λ go. plain_rescue ts h go ∙ f (λ n. go (record { minus = false; num = n }))
