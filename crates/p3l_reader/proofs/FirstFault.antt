-- The first fault of tokens, by where the parser stops and by the limits.
use Rattle.std.proofs.Common.{◌≡◌, ℕ, ◌-◌, ◌<◌, ◌≤◌, List, [], ◌∷◌, ◌++◌, length, take, drop, refl, ap, ◌∙◌, sym, subst, arith, append_assoc, append-nil, length-append, IfOk, IsErrAnd}
use Rattle.std.proofs.Math.Seq.{drop-append_seam}
use Rattle.std.proofs.lemmas.List.{take-append-drop}
use Rattle.std.specs.declared.result.Result.{Result}
use Rattle.std.specs.declared.result.Result.TheVariants.{Ok, Err}
use Rattle.p3l_ast.specs.declared.position.Pos.{Pos}
use Rattle.p3l_ast.specs.declared.refusal.Fault.{Fault}
use Rattle.p3l_ast.specs.declared.refusal.Fault.TheVariants.{TooNested}
use Rattle.p3l_ast.specs.declared.refusal.SourceRefusal.{SourceRefusal}
use Rattle.p3l_ast.specs.declared.refusal.SourceRefusal.TheVariants.{At, NoMemory}
use Rattle.p3l_ast.specs.declared.program.Program.{Program}
use Rattle.p3l_ast.specs.Tree.{EntryTree, ProgramTree}
use Rattle.p3l_lexer.specs.declared.token.Lexeme.{Lexeme}
use Rattle.p3l_lexer.specs.declared.token.Lexeme.TheVariants.{Word, Digits, Sign, Faulty}
use Rattle.p3l_lexer.specs.declared.token.TextToken.{TextToken}
use Rattle.p3l_grammar.specs.declared.nest.Nest.{Nest}
use Rattle.p3l_grammar.specs.Symbol.{Symbol, symbol, symbol_at, symbols}
use Rattle.p3l_grammar.specs.Parser.{entries, all}
use Rattle.p3l_grammar.specs.Limits.{at_rest, after_symbol, nest_after, IsKept, IsPast, IsWithin}
use Rattle.p3l_grammar.specs.Grammar.{Derives, IsViable, IsFaultOf, IsWrong, Spells}
use Rattle.p3l_lexer.specs.Token.{IsTokens}
use Rattle.p3l_lexer.specs.Position.{position_after}
use Rattle.p3l_grammar.proofs.Exact.{IsRefused, IsStop, stop_of, symbols_append}
use Rattle.p3l_grammar.proofs.Nesting.{nest_snoc}
use Rattle.p3l_reader.specs.Faults.{own_fault, wrong_at, IsWrongBefore, IsFaultIn, IsLastFault, IsOnlyList, IsOnly, IsRefusal}

within_front : (a b : List Symbol) (n : Nest) → IsWithin n (a ++ b) → IsWithin n a
within_front [] b n h = tt
within_front (t ∷ a) b n h = (h.0, within_front a b (after_symbol n t) h.1)

-- symbols that stay within the limits end within them
within_kept : (a : List Symbol) (n : Nest) → IsKept n → IsWithin n a → IsKept (nest_after n a)
within_kept [] n k h = k
within_kept (t ∷ a) n k h = within_kept a (after_symbol n t) h.0 h.1

rest_kept : IsKept at_rest
rest_kept = (omega arith, omega arith)

-- the fault where no program goes on
pub wrong_is : (ts before after : List TextToken) (end : Pos) → ts ≡ before ++ after → IsViable (symbols before) → IsWithin at_rest (symbols before) → IsRefused before after → IsFaultIn ts end (wrong_at after end)
wrong_is ts before [] end w v i r =
    record { before = before; after = []; whole = w; viable = v; within = i; wrong = (refl, refl, r) }
wrong_is ts before (t ∷ after) end w v i r =
    record { before = before; after = t ∷ after; whole = w; viable = v; within = i; wrong = (refl, of_token t.lexeme) }
  where
    of_token : (l : Lexeme) → IsFaultOf l (own_fault l) (symbols (before ++ t ∷ []))
    of_token (Word x) = r
    of_token (Digits v') = r
    of_token (Sign m) = r
    of_token (Faulty f) = refl

left_is_after : (ts : List TextToken) (left : ℕ) → (s : IsStop ts left) → drop (length ts - left) ts ≡ s.after
left_is_after ts left s =
    let at : length ts - left ≡ length s.before = omega (arith, ap length s.whole, length-append s.before s.after, s.left_is) in
    ap (λ n. drop n ts) at ∙ ap (drop (length s.before)) s.whole ∙ drop-append_seam s.before s.after

-- the parser stops within the limits
pub stop_fault : (ts : List TextToken) (left : ℕ) (end : Pos) → all (entries []) ts ≡ Err left → IsWithin at_rest (symbols ts) → IsFaultIn ts end (wrong_at (drop (length ts - left) ts) end)
stop_fault ts left end h i =
    let s = stop_of ts left h in
    let e = left_is_after ts left s in
    let P : List TextToken → Type 0 = λ q. IsFaultIn ts end (wrong_at q end) in
    let W : List Symbol → Type 0 = λ q. IsWithin at_rest q in
    let i' = subst W (ap symbols s.whole ∙ symbols_append s.before s.after) i in
    subst P (sym e) (wrong_is ts s.before s.after end s.whole s.viable (within_front (symbols s.before) (symbols s.after) at_rest i') s.refused)

pub left_small : (ts : List TextToken) (left : ℕ) → all (entries []) ts ≡ Err left → left ≤ length ts
left_small ts left h =
    let s = stop_of ts left h in
    omega (arith, ap length s.whole, length-append s.before s.after, s.left_is)

-- Lists of tokens in which only the last passes a limit.

viable_front : (a b : List Symbol) → IsViable (a ++ b) → IsViable a
viable_front a b v = record { written = v.written; more = b ++ v.more; is_text = v.is_text; begins = sym (append_assoc a b v.more) ∙ v.begins }

pub derives_viable : (ts : List Symbol) (es : List EntryTree) → Derives ts es → IsViable ts
derives_viable ts es d = record { written = d.written; more = []; is_text = d.is_text; begins = append-nil ts ∙ d.spelled }

-- if the parser stops after all tokens, they begin a program
pub stop_viable : (ts : List TextToken) (left : ℕ) → all (entries []) ts ≡ Err left → left ≡ 0 → IsViable (symbols ts)
stop_viable ts left h z = at s.after s.whole (sym s.left_is ∙ z)
  where
    s : IsStop ts left
    s = stop_of ts left h

    at : (after : List TextToken) → ts ≡ s.before ++ after → length after ≡ 0 → IsViable (symbols ts)
    at [] w l = let P : List TextToken → Type 0 = λ q. IsViable (symbols q) in subst P (sym (w ∙ append-nil s.before)) s.viable
    at (t ∷ after) w l = absurd (omega arith)

-- a token that passes a limit is no faulty one
past_is : (before : List TextToken) (t : TextToken) → IsWithin at_rest (symbols before) → IsViable (symbols (before ++ t ∷ [])) → IsPast (nest_after at_rest (symbols (before ++ t ∷ []))) → IsFaultOf t.lexeme TooNested (symbols (before ++ t ∷ []))
past_is before t i v p = of_token t.lexeme refl
  where
    after_before : nest_after at_rest (symbols (before ++ t ∷ [])) ≡ after_symbol (nest_after at_rest (symbols before)) (symbol t)
    after_before = ap (nest_after at_rest) (symbols_append before (t ∷ [])) ∙ nest_snoc (symbols before) (symbol t) at_rest

    kept : (f : Fault) → t.lexeme ≡ Faulty f → IsKept (nest_after at_rest (symbols (before ++ t ∷ [])))
    kept f e =
        let same : nest_after at_rest (symbols (before ++ t ∷ [])) ≡ nest_after at_rest (symbols before) =
        after_before ∙ ap (λ l. after_symbol (nest_after at_rest (symbols before)) (symbol_at l t.at)) e in
        let P : Nest → Type 0 = λ n. IsKept n in
        subst P (sym same) (within_kept (symbols before) at_rest rest_kept i)

    of_token : (l : Lexeme) → t.lexeme ≡ l → IsFaultOf l TooNested (symbols (before ++ t ∷ []))
    of_token (Word x) e = (v, p)
    of_token (Digits v') e = (v, p)
    of_token (Sign m) e = (v, p)
    of_token (Faulty f) e = absurd (p (kept f e))

prefix_of : (a b : List TextToken) (x t : TextToken) (xs : List TextToken) → a ++ x ∷ xs ≡ b ++ t ∷ [] → (c : List TextToken) × (b ≡ a ++ c)
prefix_of [] b x t xs e = (b, refl)
prefix_of (y ∷ a) [] x t xs e = absurd (let l = ap length e in omega (arith, l, length-append a (x ∷ xs)))
prefix_of (y ∷ a) (z ∷ b) x t xs e =
    let r = prefix_of a b x t xs (cc) in (r.0, (let q = r.1 in cc))

-- the last token passes a limit
pub last_is : (ts before : List TextToken) (t : TextToken) (end : Pos) → ts ≡ before ++ t ∷ [] → IsWithin at_rest (symbols before) → IsPast (nest_after at_rest (symbols ts)) → IsViable (symbols ts) → IsLastFault ts end (At TooNested t.at)
last_is ts before t end w i p v =
    let V : List TextToken → Type 0 = λ q. IsViable (symbols q) in
    let N : List TextToken → Type 0 = λ q. IsPast (nest_after at_rest (symbols q)) in
    let v' = subst V w v in (
      record {
        before = before;
        after = t ∷ [];
        whole = w;
        viable = viable_front (symbols before) (symbol t ∷ []) (let W : List Symbol → Type 0 = λ q. IsViable q in subst W (symbols_append before (t ∷ [])) v');
        within = i;
        wrong = (refl, past_is before t i v' (subst N w p));
      },
      omega arith,
    )

-- a fault before the last token
pub early_is : (ts before : List TextToken) (t : TextToken) (left : ℕ) (end : Pos) → ts ≡ before ++ t ∷ [] → IsWithin at_rest (symbols before) → all (entries []) ts ≡ Err left → 0 < left → IsLastFault ts end (wrong_at (drop (length ts - left) ts) end)
unfolding wrong_is
early_is ts before t left end w i h l =
    let s = stop_of ts left h in
    let P : List TextToken → Type 0 = λ q. IsLastFault ts end (wrong_at q end) in
    subst P (sym (left_is_after ts left s)) (at s.after s.whole (subst (λ n. 0 < n) s.left_is l) s.refused s.viable)
  where
    b0 : List TextToken
    b0 = (stop_of ts left h).before

    at : (after : List TextToken) → ts ≡ b0 ++ after → 0 < length after → IsRefused b0 after → IsViable (symbols b0) → IsLastFault ts end (wrong_at after end)
    at [] e z r v = absurd (omega arith)
    at (x ∷ xs) e z r v =
        let c = prefix_of b0 before x t xs (sym e ∙ w) in
        let W : List TextToken → Type 0 = λ q. IsWithin at_rest (symbols q) in
        let S : List Symbol → Type 0 = λ q. IsWithin at_rest q in
        let i' = within_front (symbols b0) (symbols c.0) at_rest (subst S (symbols_append b0 c.0) (subst W c.1 i)) in
        (wrong_is ts b0 (x ∷ xs) end e v i' r, z)

-- more tokens after change nothing
pub fault_whole : (ts front more : List TextToken) (end : Pos) (e : SourceRefusal) → ts ≡ front ++ more → IsLastFault front end e → IsFaultIn ts end e
fault_whole ts front more end NoMemory w h = h
fault_whole ts front more end (At fault at) w h =
    let f = h.0 in
    record {
      before = f.before;
      after = f.after ++ more;
      whole = w ∙ ap (λ q. q ++ more) f.whole ∙ append_assoc f.before f.after more;
      viable = f.viable;
      within = f.within;
      wrong = grown f.before f.after more fault at end h.1 f.wrong;
    }
  where
    grown : (before after more : List TextToken) (fault : Fault) (at end : Pos) → 0 < length after → IsWrongBefore before after end fault at → IsWrongBefore before (after ++ more) end fault at
    grown before [] more fault at end z h = absurd (omega arith)
    grown before (x ∷ xs) more fault at end z h = h

-- the fault of a text from the fault of its tokens
pub text_fault : (bytes : List ℕ) (ts : List TextToken) (end : Pos) (e : SourceRefusal) → IsTokens bytes ts → end ≡ position_after bytes → IsFaultIn ts end e → IsRefusal bytes e
text_fault bytes ts end NoMemory t p h = h
text_fault bytes ts end (At fault at) t p h = λ l. record {
  tokens = ts;
  are_tokens = t;
  before = h.before;
  after = h.after;
  whole = h.whole;
  viable = h.viable;
  within = h.within;
  wrong = after_last h.before h.after h.wrong;
}
  where
    after_last : (before after : List TextToken) → IsWrongBefore before after end fault at → IsWrong bytes before after fault at
    after_last before [] w = (w.0, w.1 ∙ p, w.2)
    after_last before (x ∷ xs) w = w

-- a prefix of tokens that pass no limit passes none
pub front_kept : (ts : List TextToken) (i : ℕ) → IsWithin at_rest (symbols ts) → IsKept (nest_after at_rest (symbols (take i ts)))
front_kept ts i h =
    let W : List TextToken → Type 0 = λ q. IsWithin at_rest (symbols q) in
    let S : List Symbol → Type 0 = λ q. IsWithin at_rest q in
    let h' = subst S (symbols_append (take i ts) (drop i ts)) (subst W (sym (take-append-drop i ts)) h) in
    within_kept (symbols (take i ts)) at_rest rest_kept (within_front (symbols (take i ts)) (symbols (drop i ts)) at_rest h')

pub if_ok : {A : Type 0} (r : Result A SourceRefusal) (P : Type 0) → P → IfOk r (λ _. P)
if_ok (Ok x) P h = h
if_ok (Err e) P h = tt

-- Errors that are handed on.

pub only_residual : (program : ProgramTree) (r : Result Program SourceRefusal) (e : SourceRefusal) (es : List EntryTree) → IsErrAnd r (λ d. d ≡ e) → IsOnlyList es (Err e) → IsOnly program r
only_residual program (Ok p) e es a h = absurd a
only_residual program (Err d) NoMemory es a h = let P : SourceRefusal → Type 0 = λ q. IsOnly program (Err q) in subst P (sym a) h
only_residual program (Err d) (At fault at) es a h = absurd h

-- the tokens of a spelled text derive its entries and stay within the limits
pub spelled_entries : (bytes : List ℕ) (ts : List TextToken) (program : ProgramTree) → (s : Spells bytes program) → s.tokens ≡ ts → Derives (symbols ts) program.entries × IsWithin at_rest (symbols ts)
spelled_entries bytes ts program s e =
    let D : List TextToken → Type 0 = λ q. Derives (symbols q) program.entries in
    let W : List TextToken → Type 0 = λ q. IsWithin at_rest (symbols q) in
    (subst D e s.derives, subst W e s.within)

pub spelled_program : (es : List EntryTree) (end : Pos) (program : ProgramTree) → es ≡ program.entries → end ≡ program.end → ◌≡◌ {A = ProgramTree} (record { entries = es; end = end }) program
spelled_program es end program p q = λ i. record { entries = p i; end = q i }
