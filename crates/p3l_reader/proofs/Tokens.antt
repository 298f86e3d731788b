-- The functions of the reader agree with the parser, step by step.
use Rattle.std.proofs.Common.{◌≡◌, suc, List, [], ◌∷◌, length, Some, None, Bool, true, false, cond, refl, sym, ap, ◌∙◌, subst, IfOk, IfErr, IsErrAnd}
use Rattle.std.specs.Str.{bytes_eq}
use Rattle.std.proofs.lemmas.Slice.Eq.{bytes_eq-Decides}
use Rattle.std.specs.declared.result.Result.{Result}
use Rattle.std.specs.declared.result.Result.TheVariants.{Ok, Err}
use Rattle.p3l_ast.specs.declared.module.Kind.{Kind}
use Rattle.p3l_lexer.specs.declared.mark.Mark.{Mark}
use Rattle.p3l_lexer.specs.declared.mark.Mark.TheVariants as marks
use Rattle.p3l_lexer.specs.declared.token.Lexeme.TheVariants as lexemes
use Rattle.p3l_lexer.specs.declared.token.TextToken.{TextToken}
use Rattle.p3l_grammar.specs.Symbol.{Symbol, symbol_at, symbol, word, digits, sign, faulty, kind_mark}
use Rattle.p3l_lexer.specs.Mark.{mark_text}
use Rattle.p3l_grammar.specs.Parser.{Parser, await, step, next, all, same_mark, await_step}
use Rattle.p3l_grammar.proofs.Sound.{mark_same}
use Rattle.p3l_reader.specs.declared.refusal.Refusal.{Refusal}
use Rattle.p3l_reader.specs.declared.refusal.Refusal.TheVariants.{NoMemory, Expected}
use Rattle.p3l_reader.specs.Reading.{Begins, NotNext, NotThere, Reads, Fails, FailsEnd}

-- the parser takes the token that comes first
pub begins_all : (ts rest : List TextToken) (t : Symbol) → Begins ts t rest → (s : Parser) → all s ts ≡ next (step s t) (suc (length rest)) (λ s'. all s' rest)
begins_all ts rest t b s =
    ap (all s) b.whole ∙ ap (λ q. next (step s q) (suc (length rest)) (λ s'. all s' rest)) b.seen

mark_itself : (m : Mark) (s : Parser) → await_step (sign m) m s ≡ Some s
mark_itself m s = rw ((bytes_eq-Decides (mark_text m) (mark_text m)).1 refl) refl

pub await_begins : (m : Mark) (ts rest : List TextToken) → Begins ts (sign m) rest → (s : Parser) → all (await m s) ts ≡ all s rest
await_begins m ts rest b s =
    begins_all ts rest (sign m) b (await m s) ∙ ap (λ o. next o (suc (length rest)) (λ s'. all s' rest)) (mark_itself m s)

not_there : (t : Symbol) (m : Mark) (s : Parser) → (t ≡ sign m → ⊥) → await_step t m s ≡ None
not_there (word x) m s h = refl
not_there (digits v p) m s h = refl
not_there faulty m s h = refl
not_there (sign m') m s h = at (same_mark m m') refl
  where
    at : (b : Bool) → same_mark m m' ≡ b → cond b (Some s) None ≡ None
    at true p = absurd (h (ap sign (sym (mark_same m m' p))))
    at false p = refl

pub await_fails : (m : Mark) (ts : List TextToken) → NotNext m ts → (s : Parser) → all (await m s) ts ≡ Err (length ts)
await_fails m [] h s = refl
await_fails m (t ∷ ts) h s = ap (λ o. next o (suc (length ts)) (λ s'. all s' ts)) (not_there (symbol t) m s h)

-- a token is a mark where it is written like it
pub is_sign : (t : TextToken) (found m : Mark) (b : Bool) → t.lexeme ≡ lexemes.Sign found → b ≡ bytes_eq (mark_text found) (mark_text m) → (b ≡ true → symbol t ≡ sign m) × (symbol t ≡ sign m → b ≡ true)
is_sign t found m b is same =
    let seen : symbol t ≡ sign found = ap (λ l. symbol_at l t.at) is in
    let decides = bytes_eq-Decides (mark_text found) (mark_text m) in (
      λ h. let p : same_mark found m ≡ true = sym same ∙ h in seen ∙ ap sign (mark_same found m p),
      λ h. let q : sign found ≡ sign m = sym seen ∙ h in let r : found ≡ m = cc in same ∙ decides.1 (ap mark_text r),
    )

-- A mark, and what follows it.

pub mark_fails : {A : Type 0} (m : Mark) (from : (A → Parser) → Parser) (ts r : List TextToken) (e : Refusal) → Begins ts (sign m) r → Fails from r e → Fails (λ go. await m (from go)) ts e
mark_fails m from ts r NoMemory b h = h
mark_fails m from ts r (Expected left) b h = λ go. await_begins m ts r b (from go) ∙ h go

-- One thing after another.

pub then_fails : {A B : Type 0} (from : (A → Parser) → Parser) (k : A → (B → Parser) → Parser) (ts r : List TextToken) (x : A) (e : Refusal) → Reads from ts x r → Fails (k x) r e → Fails (λ go. from (λ a. k a go)) ts e
then_fails from k ts r x NoMemory f h = h
then_fails from k ts r x (Expected left) f h = λ go. f.goes (λ a. k a go) ∙ h go

-- a property of each error may be weakened
pub on_error : {A : Type 0} (r : Result A Refusal) (P Q : Refusal → Type 0) → ((e : Refusal) → P e → Q e) → IfErr r P → IfErr r Q
on_error (Ok x) P Q f h = tt
on_error (Err e) P Q f h = f e h

-- two properties of each answer give a third
pub on_answer : {A : Type 0} (r : Result A Refusal) (P P' Q : A → Type 0) → ((x : A) → P x → P' x → Q x) → IfOk r P → IfOk r P' → IfOk r Q
on_answer (Ok x) P P' Q f h h' = f x h h'
on_answer (Err e) P P' Q f h h' = tt

-- a property of an error holds of a result that hands it on
pub on_residual : {A : Type 0} (r : Result A Refusal) (e : Refusal) (Q : Refusal → Type 0) → IsErrAnd r (λ d. d ≡ e) → Q e → IfErr r Q
on_residual (Ok x) e Q p q = tt
on_residual (Err d) e Q p q = subst Q (sym p) q

-- The end of a module.

pub end_missing : (k : Kind) (ts r : List TextToken) (e : Refusal) → Begins ts (sign marks.End) r → NotThere (kind_mark k) r e → FailsEnd k ts e
end_missing k ts r NoMemory b h = h
end_missing k ts r (Expected left) b h = λ s. await_begins marks.End ts r b (await (kind_mark k) s) ∙ await_fails (kind_mark k) r h.0 s ∙ ap Err (sym h.1)
