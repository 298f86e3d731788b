-- The memory at the start of a run stands for the valuation in which the body starts, and its out words
-- are the words of the outs.
use Rattle.std.proofs.Common.{◌≡◌, ◌≢◌, ℕ, ℤ, zero, suc, pos, ◌+◌, ◌-◌, ◌≤◌, cond, List, [], ◌∷◌, ◌++◌, length, take, drop, map, replicate, Some, None, refl, sym, ap, ◌∙◌, subst, arith, append_assoc, length-drop}
use Rattle.std.specs.Prelude.{bytes_eq}
use Rattle.std.specs.List.{AllByRecursion, flat_map}
use Rattle.std.specs.Map.{lookup}
use Rattle.std.proofs.Math.Seq.{drop-append_seam}
use Rattle.std.proofs.lemmas.List.{take-append-le, drop-append-le, take-replicate, map-append}
use Rattle.std.proofs.lemmas.Slice.Eq.{bytes_eq-Decides}
use Rattle.p3l_ast.specs.declared.meaning.valuation.Binding.{Binding}
use Rattle.p3l_ast.specs.declared.meaning.valuation.Valuation.{Valuation}
use Rattle.p3l_types.specs.Constants.{Constants}
use Rattle.p3l_code.specs.declared.instr.Code.{Code}
use Rattle.p3l_code.specs.Machine.{started, outs_of}
use Rattle.p3l_body.specs.declared.var.Var.{Var}
use Rattle.p3l_body.specs.Eval.{width, bound, holding, zeroed, constant, start_of, words_in}
use Rattle.p3l_body.specs.Seq.{SeqTree}
use Rattle.p3l_compile.specs.declared.scope.Slot.{Slot}
use Rattle.p3l_compile.specs.Scope.{Names, found, bound_at, valuation_of, LieFrom, IsLaid, slot_at, slots_from, names_of}
use Rattle.p3l_compile.specs.Condition.{total, Differ, IsArray}
use Rattle.p3l_compile.proofs.Scopes.{no_match, words_found}

abbrev Place : Type 0
Place = List ℕ × Slot

pub total_append : (front back : List Var) → total (front ++ back) ≡ total front + total back
total_append [] back = omega arith
total_append (a ∷ front) back = let h = total_append front back in omega arith

pub slots_append : (front back : List Var) (base : ℕ) → slots_from base (front ++ back) ≡ slots_from base front ++ slots_from (base + total front) back
slots_append [] back base = let e : base ≡ base + 0 = omega arith in ap (λ k. slots_from k back) e
slots_append (a ∷ front) back base =
    let e : base + width a + total front ≡ base + (width a + total front) = omega arith in
    ap (λ l. (a.name, slot_at base a) ∷ l) (slots_append front back (base + width a))
    ∙ ap (λ k. (a.name, slot_at base a) ∷ (slots_from (base + width a) front ++ slots_from k back)) e

abbrev nil : List ℤ
nil = []

drop_nil : (k : ℕ) → drop k nil ≡ nil
drop_nil zero = refl
drop_nil (suc k) = refl

take_nil : (k : ℕ) → take k nil ≡ nil
take_nil zero = refl
take_nil (suc k) = refl

drop_more : (n m : ℕ) (l : List ℤ) → drop (n + m) l ≡ drop m (drop n l)
drop_more zero m l = let e : 0 + m ≡ m = omega arith in ap (λ k. drop k l) e
drop_more (suc n) m [] = drop_nil (suc n + m) ∙ sym (drop_nil m)
drop_more (suc n) m (x ∷ l) = let e : suc n + m ≡ suc (n + m) = omega arith in ap (λ k. drop k (x ∷ l)) e ∙ drop_more n m l

drop_replicate : (m n : ℕ) (x : ℤ) → drop m (replicate n x) ≡ replicate (n - m) x
drop_replicate zero n x = let e : n ≡ n - 0 = omega arith in ap (λ k. replicate k x) e
drop_replicate (suc m) zero x = let e : 0 ≡ 0 - suc m = omega arith in ap (λ k. replicate k x) e
drop_replicate (suc m) (suc n) x =
    let e : n - m ≡ suc n - suc m = omega arith in drop_replicate m n x ∙ ap (λ k. replicate k x) e

-- the ins hold the words
holds : (vars : List Var) (memory words z : List ℤ) (base : ℕ) → drop base memory ≡ words ++ z → total vars ≤ length words → map (bound_at memory) (slots_from base vars) ≡ holding vars words
holds [] memory words z base e long = refl
holds (v ∷ vars) memory words z base e long =
    let w = width v in
    let fits : w ≤ length words = omega arith in
    let own = ap (take w) e ∙ take-append-le w words z fits in
    let rest = drop_more base w memory ∙ ap (drop w) e ∙ drop-append-le w words z fits in
    ap (λ x. bound v x ∷ map (bound_at memory) (slots_from (base + w) vars)) own
    ∙ ap (λ l. bound v (take w words) ∷ l) (holds vars memory (drop w words) z (base + w) rest (omega (arith, length-drop w words)))

-- the outs and the local variables are 0
zeros : (vars : List Var) (memory : List ℤ) (base n : ℕ) → drop base memory ≡ replicate n (pos 0) → total vars ≤ n → map (bound_at memory) (slots_from base vars) ≡ map zeroed vars
zeros [] memory base n e long = refl
zeros (v ∷ vars) memory base n e long =
    let w = width v in
    let own = ap (take w) e ∙ take-replicate w n (pos 0) (omega arith) in
    let rest = drop_more base w memory ∙ ap (drop w) e ∙ drop_replicate w n (pos 0) in
    ap (λ x. bound v x ∷ map (bound_at memory) (slots_from (base + w) vars)) own
    ∙ ap (λ l. zeroed v ∷ l) (zeros vars memory (base + w) (n - w) rest (omega arith))

with_bindings : List Binding → Valuation
with_bindings bindings = record { bindings = bindings; turns = 0 }

-- the valuation at the start
pub starts : (seq : SeqTree) (code : Code) (words : List ℤ) → code.memory ≡ total ((seq.ins ++ seq.outs) ++ seq.locals) → length words ≡ total seq.ins → valuation_of (names_of seq) (started code words) 0 ≡ start_of seq words
unfolding with_bindings
starts seq code words size fits =
    let memory = started code words in
    let n : ℕ = code.memory - length words in
    let z = replicate n (pos 0) in
    let t1 = total_append (seq.ins ++ seq.outs) seq.locals in
    let t2 = total_append seq.ins seq.outs in
    let at_outs : drop (0 + total seq.ins) memory ≡ z =
    (let e : 0 + total seq.ins ≡ length words = omega arith in ap (λ k. drop k memory) e ∙ drop-append_seam words z) in
    let at_locals : drop (0 + total (seq.ins ++ seq.outs)) memory ≡ replicate (n - total seq.outs) (pos 0) =
    (let e : 0 + total (seq.ins ++ seq.outs) ≡ 0 + total seq.ins + total seq.outs = omega (arith, t2) in
    ap (λ k. drop k memory) e ∙ drop_more (0 + total seq.ins) (total seq.outs) memory ∙ ap (drop (total seq.outs)) at_outs ∙ drop_replicate (total seq.outs) n (pos 0)) in
    let ins = holds seq.ins memory words z 0 refl (omega arith) in
    let outs = zeros seq.outs memory (0 + total seq.ins) n at_outs (omega (arith, t1, t2)) in
    let locals = zeros seq.locals memory (0 + total (seq.ins ++ seq.outs)) (n - total seq.outs) at_locals (omega (arith, t1, t2)) in
    let slots = slots_append (seq.ins ++ seq.outs) seq.locals 0 ∙ ap (λ l. l ++ slots_from (0 + total (seq.ins ++ seq.outs)) seq.locals) (slots_append seq.ins seq.outs 0) in
    let variables : map (bound_at memory) (slots_from 0 ((seq.ins ++ seq.outs) ++ seq.locals)) ≡ (holding seq.ins words ++ map zeroed seq.outs) ++ map zeroed seq.locals =
    ap (map (bound_at memory)) slots
    ∙ map-append (bound_at memory) (slots_from 0 seq.ins ++ slots_from (0 + total seq.ins) seq.outs) (slots_from (0 + total (seq.ins ++ seq.outs)) seq.locals)
    ∙ ap (λ l. l ++ map (bound_at memory) (slots_from (0 + total (seq.ins ++ seq.outs)) seq.locals)) (map-append (bound_at memory) (slots_from 0 seq.ins) (slots_from (0 + total seq.ins) seq.outs))
    ∙ ap (λ l. (l ++ map (bound_at memory) (slots_from (0 + total seq.ins) seq.outs)) ++ map (bound_at memory) (slots_from (0 + total (seq.ins ++ seq.outs)) seq.locals)) ins
    ∙ ap (λ l. (holding seq.ins words ++ l) ++ map (bound_at memory) (slots_from (0 + total (seq.ins ++ seq.outs)) seq.locals)) outs
    ∙ ap (λ l. (holding seq.ins words ++ map zeroed seq.outs) ++ l) locals in
    ap (λ l. with_bindings (l ++ map constant seq.constants)) variables

-- the variables lie one after the other
alone_slots : (name : List ℕ) (vars : List Var) (base : ℕ) → AllByRecursion (λ (v : Var). v.name ≢ name) vars → AllByRecursion (λ (p : Place). p.0 ≢ name) (slots_from base vars)
alone_slots name [] base h = tt
alone_slots name (v ∷ vars) base h = (h.0, alone_slots name vars (base + width v) h.1)

pub lie_from : (vars : List Var) (constants : Constants) (base size : ℕ) → Differ vars constants → AllByRecursion IsArray vars → size ≡ base + total vars → LieFrom base (slots_from base vars) constants size
lie_from [] constants base size differ arrays e = omega arith
lie_from (v ∷ vars) constants base size differ arrays e = (
  refl,
  refl,
  arrays.0.some,
  arrays.0.few,
  (alone_slots v.name vars (base + width v) differ.0, differ.1),
  lie_from vars constants (base + width v) size differ.2 arrays.1 (omega arith),
)

-- a name that differs from all before it
pub before_differ : (front back : List Place) (p : Place) (constants : Constants) (from size : ℕ) → LieFrom from (front ++ p ∷ back) constants size → AllByRecursion (λ (q : Place). q.0 ≢ p.0) front
before_differ [] back p constants from size l = tt
before_differ (q ∷ front) back p constants from size l =
    let later : p.0 ≢ q.0 = among front l.4.0 in
    ((λ e. later (sym e)), before_differ front back p constants (from + q.1.words) size l.5)
  where
    among : (mid : List Place) → AllByRecursion (λ (s : Place). s.0 ≢ q.0) (mid ++ p ∷ back) → p.0 ≢ q.0
    among [] h = h.0
    among (s ∷ mid) h = among mid h.1

pub lookup_none : (name : List ℕ) (front : List Place) → AllByRecursion (λ (q : Place). q.0 ≢ name) front → lookup (bytes_eq name) front ≡ None
lookup_none name [] h = refl
lookup_none name (q ∷ front) h =
    ap (λ b. cond b (Some q.1) (lookup (bytes_eq name) front)) (no_match name q.0 (λ e. h.0 (sym e))) ∙ lookup_none name front h.1

lookup_here : (name : List ℕ) (front back : List Place) (slot : Slot) → AllByRecursion (λ (q : Place). q.0 ≢ name) front → lookup (bytes_eq name) (front ++ (name, slot) ∷ back) ≡ Some slot
lookup_here name [] back slot h =
    ap (λ b. cond b (Some slot) (lookup (bytes_eq name) back)) ((bytes_eq-Decides name name).1 refl)
lookup_here name (q ∷ front) back slot h =
    ap (λ b. cond b (Some q.1) (lookup (bytes_eq name) (front ++ (name, slot) ∷ back))) (no_match name q.0 (λ e. h.0 (sym e))) ∙ lookup_here name front back slot h.1

-- the words of variables that lie somewhere
pub words_taken : (names : Names) (memory : List ℤ) (turns : ℕ) (front back : List Place) (vars : List Var) (base size : ℕ) → names.slots ≡ front ++ (slots_from base vars ++ back) → IsLaid names size → base + total vars ≤ length memory → flat_map (words_in (valuation_of names memory turns)) vars ≡ take (total vars) (drop base memory)
words_taken names memory turns front back [] base size lie laid within = refl
words_taken names memory turns front back (v ∷ vars) base size lie laid within =
    let w = width v in
    let rest = slots_from (base + w) vars ++ back in
    let p : Place = (v.name, slot_at base v) in
    let free = before_differ front rest p names.constants 0 size (subst (λ l. LieFrom 0 l names.constants size) lie laid) in
    let there : found names v.name ≡ Some (slot_at base v) = ap (lookup (bytes_eq v.name)) lie ∙ lookup_here v.name front rest (slot_at base v) free in
    let own = words_found names memory turns v.name (slot_at base v) there in
    let more = words_taken names memory turns (front ++ p ∷ []) back vars (base + w) size (lie ∙ sym (append_assoc front (p ∷ []) rest)) laid (omega arith) in
    ap (λ l. l ++ flat_map (words_in (valuation_of names memory turns)) vars) own
    ∙ ap (λ l. take w (drop base memory) ++ l) (more ∙ ap (take (total vars)) (drop_more base w memory))
    ∙ sym (take_more w (total vars) (drop base memory))
  where
    take_more : (n m : ℕ) (l : List ℤ) → take (n + m) l ≡ take n l ++ take m (drop n l)
    take_more zero m l = let e : 0 + m ≡ m = omega arith in ap (λ k. take k l) e
    take_more (suc n) m [] = take_nil (suc n + m) ∙ sym (take_nil m)
    take_more (suc n) m (x ∷ l) = let e : suc n + m ≡ suc (n + m) = omega arith in ap (λ k. take k (x ∷ l)) e ∙ ap (λ t. x ∷ t) (take_more n m l)

-- the out words are the words of the outs
pub outs_taken : (seq : SeqTree) (code : Code) (memory : List ℤ) (turns : ℕ) → IsLaid (names_of seq) code.memory → code.ins ≡ total seq.ins → code.outs ≡ total seq.outs → length memory ≡ code.memory → code.ins + code.outs ≤ code.memory → flat_map (words_in (valuation_of (names_of seq) memory turns)) seq.outs ≡ outs_of code memory
outs_taken seq code memory turns laid ins outs whole ports =
    let slots : slots_from 0 ((seq.ins ++ seq.outs) ++ seq.locals) ≡ slots_from 0 seq.ins ++ (slots_from (0 + total seq.ins) seq.outs ++ slots_from (0 + total (seq.ins ++ seq.outs)) seq.locals) =
    slots_append (seq.ins ++ seq.outs) seq.locals 0 ∙ ap (λ l. l ++ slots_from (0 + total (seq.ins ++ seq.outs)) seq.locals) (slots_append seq.ins seq.outs 0)
    ∙ append_assoc (slots_from 0 seq.ins) (slots_from (0 + total seq.ins) seq.outs) (slots_from (0 + total (seq.ins ++ seq.outs)) seq.locals) in
    let e : 0 + total seq.ins ≡ code.ins = omega arith in
    let within : code.outs ≤ length (drop code.ins memory) = omega (arith, length-drop code.ins memory) in
    words_taken (names_of seq) memory turns (slots_from 0 seq.ins) (slots_from (0 + total (seq.ins ++ seq.outs)) seq.locals) seq.outs (0 + total seq.ins) code.memory slots laid (omega arith)
    ∙ ap (λ n. take n (drop (0 + total seq.ins) memory)) (sym outs)
    ∙ ap (λ k. take code.outs (drop k memory)) e
    ∙ sym (take-append-le code.outs (drop code.ins memory) (replicate code.outs (pos 0)) within)
