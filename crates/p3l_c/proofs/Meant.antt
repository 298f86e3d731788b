-- The C function of a body does what the body means.
use Rattle.std.proofs.Common.{◌≡◌, ℕ, ℤ, zero, suc, pos, ◌+◌, ◌≤◌, Bool, true, false, cond, List, [], ◌∷◌, ◌++◌, map, take, drop, length, replicate, Option, Some, None, Result, Ok, Err, refl, sym, ap, ◌∙◌, arith, length-drop}
use Rattle.std.specs.Prelude.{FitsSigned, bytes_eq, slice_index_or}
use Rattle.std.specs.List.{AllByRecursion, flat_map}
use Rattle.std.specs.Option.{option_map_or}
use Rattle.std.specs.Int.{w64}
use Rattle.std.proofs.lemmas.List.{length-replicate, map-append}
use Rattle.std.proofs.lemmas.Int.{ints}
use Rattle.p3l_base.specs.declared.outcome.TrapKind.{TrapKind}
use Rattle.p3l_ast.specs.declared.meaning.valuation.Binding.{Binding}
use Rattle.p3l_ast.specs.declared.meaning.valuation.Valuation.{Valuation}
use Rattle.p3l_ast.specs.Meaning.Valuation.{binding_of}
use Rattle.p3l_ast.specs.Meaning.Statement.{run_of}
use Rattle.p3l_body.specs.declared.var.Var.{Var}
use Rattle.p3l_body.specs.Eval.{width, bound, holding, zeroed, constant, start_of, words_in, outcome_of}
use Rattle.p3l_body.specs.Seq.{SeqTree}
use Rattle.p3l_c.specs.Syntax as c
use Rattle.p3l_base.specs.declared.outcome.Outcome.TheVariants.{Value}
use Rattle.p3l_c.specs.Machine.{Temps, Store, Ending, goes, returns, undefined, unfinished, and_then, runs_by, loops_by}
use Rattle.p3l_c.specs.Translate.{Shapes, declared, lines}
use Rattle.p3l_c.specs.Condition.{shape_of, shapes_of, HasSizes, IsObject, vars_shapes, variables_in, scalar, shapes_in, ConstantsFit, HasSmallSizes, IsWritable, total, stored, gives, given_values, values_of, called_of, entered, take_entries, zero_entry, function_of, CMeans}
use Rattle.p3l_c.proofs.Steps.{afterwards}
use Rattle.p3l_c.proofs.Statements.{IsSound, statements_do}

-- the names at the start are those of the body
shapes_holding : (vars : List Var) (words : List ℤ) → map shape_of (holding vars words) ≡ vars_shapes vars
shapes_holding [] words = refl
shapes_holding (v ∷ vars) words = ap (λ l. (v.name, v.shape.sizes) ∷ l) (shapes_holding vars (drop (width v) words))

shapes_zeroed : (vars : List Var) → map shape_of (map zeroed vars) ≡ vars_shapes vars
shapes_zeroed [] = refl
shapes_zeroed (v ∷ vars) = ap (λ l. (v.name, v.shape.sizes) ∷ l) (shapes_zeroed vars)

shapes_constants : (constants : List (List ℕ × ℤ)) → map shape_of (map constant constants) ≡ map scalar constants
shapes_constants [] = refl
shapes_constants (k ∷ constants) = ap (λ l. (k.0, []) ∷ l) (shapes_constants constants)

pub start_shapes : (seq : SeqTree) (words : List ℤ) → shapes_of (start_of seq words) ≡ shapes_in seq
start_shapes seq words =
    let ins = holding seq.ins words in
    let outs = map zeroed seq.outs in
    let locals = map zeroed seq.locals in
    let constants = map constant seq.constants in
    map-append shape_of ((ins ++ outs) ++ locals) constants
    ∙ ap (λ l. l ++ map shape_of constants) (map-append shape_of (ins ++ outs) locals ∙ ap (λ l. l ++ map shape_of locals) (map-append shape_of ins outs))
    ∙ ap (λ l. ((l ++ map shape_of outs) ++ map shape_of locals) ++ map shape_of constants) (shapes_holding seq.ins words)
    ∙ ap (λ l. ((vars_shapes seq.ins ++ l) ++ map shape_of locals) ++ map shape_of constants) (shapes_zeroed seq.outs)
    ∙ ap (λ l. ((vars_shapes seq.ins ++ vars_shapes seq.outs) ++ l) ++ map shape_of constants) (shapes_zeroed seq.locals)
    ∙ ap (λ l. ((vars_shapes seq.ins ++ vars_shapes seq.outs) ++ vars_shapes seq.locals) ++ l) (shapes_constants seq.constants)

-- and all are objects
zero_fits : FitsSigned w64 (pos 0)
zero_fits = omega (arith, ints)

all_words : (words : List ℤ) → AllByRecursion (FitsSigned w64) words → (k : ℕ) → FitsSigned w64 (slice_index_or words k (pos 0))
all_words [] h k = zero_fits
all_words (x ∷ words) h zero = h.0
all_words (x ∷ words) h (suc k) = all_words words h.1 k

all_take : (n : ℕ) (words : List ℤ) → AllByRecursion (FitsSigned w64) words → AllByRecursion (FitsSigned w64) (take n words)
all_take zero words h = tt
all_take (suc n) [] h = tt
all_take (suc n) (x ∷ words) h = (h.0, all_take n words h.1)

all_drop : (n : ℕ) (words : List ℤ) → AllByRecursion (FitsSigned w64) words → AllByRecursion (FitsSigned w64) (drop n words)
all_drop zero words h = h
all_drop (suc n) [] h = tt
all_drop (suc n) (x ∷ words) h = all_drop n words h.1

all_zero : (n : ℕ) → AllByRecursion (FitsSigned w64) (replicate n (pos 0))
all_zero zero = tt
all_zero (suc n) = (zero_fits, all_zero n)

take_length : (n : ℕ) (words : List ℤ) → n ≤ length words → length (take n words) ≡ n
take_length zero words h = refl
take_length (suc n) [] h = absurd (omega arith)
take_length (suc n) (x ∷ words) h = let e = take_length n words (omega arith) in omega arith

all_front : (front back : List Var) → AllByRecursion HasSmallSizes (front ++ back) → AllByRecursion HasSmallSizes front
all_front [] back h = tt
all_front (v ∷ front) back h = (h.0, all_front front back h.1)

all_back : (front back : List Var) → AllByRecursion HasSmallSizes (front ++ back) → AllByRecursion HasSmallSizes back
all_back [] back h = h
all_back (v ∷ front) back h = all_back front back h.1

all_both : (front back : List Binding) → AllByRecursion IsObject front → AllByRecursion IsObject back → AllByRecursion IsObject (front ++ back)
all_both [] back h k = k
all_both (b ∷ front) back h k = (h.0, all_both front back h.1 k)

objects_holding : (vars : List Var) (words : List ℤ) → total vars ≤ length words → AllByRecursion HasSmallSizes vars → AllByRecursion (FitsSigned w64) words → AllByRecursion IsObject (holding vars words)
objects_holding [] words long small fits = tt
objects_holding (v ∷ vars) words long small fits = (
  record { whole = take_length (width v) words (omega arith); sizes = small.0; words = all_words (take (width v) words) (all_take (width v) words fits) },
  objects_holding vars (drop (width v) words) (omega (arith, length-drop (width v) words)) small.1 (all_drop (width v) words fits),
)

objects_zeroed : (vars : List Var) → AllByRecursion HasSmallSizes vars → AllByRecursion IsObject (map zeroed vars)
objects_zeroed [] small = tt
objects_zeroed (v ∷ vars) small = (
  record { whole = length-replicate (width v) (pos 0); sizes = small.0; words = all_words (replicate (width v) (pos 0)) (all_zero (width v)) },
  objects_zeroed vars small.1,
)

objects_constants : (constants : List (List ℕ × ℤ)) → ConstantsFit constants → AllByRecursion IsObject (map constant constants)
objects_constants [] fits = tt
objects_constants (k ∷ constants) fits = (
  record { whole = refl; sizes = tt; words = all_words (k.1 ∷ []) (fits.0, tt) },
  objects_constants constants fits.1,
)

pub start_objects : (seq : SeqTree) (words : List ℤ) → IsWritable seq → length words ≡ total seq.ins → AllByRecursion (FitsSigned w64) words → AllByRecursion IsObject (start_of seq words).bindings
start_objects seq words can whole fits =
    let ports = all_front (seq.ins ++ seq.outs) seq.locals can.sizes in
    all_both _ (map constant seq.constants)
    (all_both _ (map zeroed seq.locals)
    (all_both (holding seq.ins words) (map zeroed seq.outs)
    (objects_holding seq.ins words (omega arith) (all_front seq.ins seq.outs ports) fits)
    (objects_zeroed seq.outs (all_back seq.ins seq.outs ports)))
    (objects_zeroed seq.locals (all_back (seq.ins ++ seq.outs) seq.locals can.sizes)))
    (objects_constants seq.constants can.constants)

-- the values of the outs
values_same : (s : Valuation) (v : Var) → values_of s.bindings (v.name, v.shape.sizes) ≡ words_in s v
values_same s v = by (binding_of s v.name)
  where
    by : (o : Option Binding) → given_values o ≡ option_map_or (λ (b : Binding). b.words) o []
    by (Some b) = refl
    by None = refl

outs_same : (s : Valuation) (outs : List Var) → flat_map (values_of s.bindings) (vars_shapes outs) ≡ flat_map (words_in s) outs
outs_same s [] = refl
outs_same s (v ∷ outs) = ap (λ l. l ++ flat_map (values_of s.bindings) (vars_shapes outs)) (values_same s v) ∙ ap (λ l. words_in s v ++ l) (outs_same s outs)

abbrev none : Temps
none = λ k. None

ended : (home : ℕ) (outs : List Var) (r : Result Valuation TrapKind) → called_of home (vars_shapes outs) (afterwards r (λ m. goes (stored m none))) ≡ gives (outcome_of home outs r)
ended home outs (Ok s) = ap (λ l. gives (Value l)) (outs_same s outs)
ended home outs (Err trap) = refl

-- the temps of the end make no difference
abbrev forget : Store → Ending
forget st = goes (record st { temps = none })

forgotten : (home : ℕ) (outs : Shapes) (e : Ending) → called_of home outs e ≡ called_of home outs (and_then e forget)
forgotten home outs (goes st) = refl
forgotten home outs (returns trap) = refl
forgotten home outs undefined = refl
forgotten home outs unfinished = refl

-- the function declares the objects that the body starts with
abbrev nil : List ℤ
nil = []

drop_nil : (k : ℕ) → drop k nil ≡ nil
drop_nil zero = refl
drop_nil (suc k) = refl

drop_more : (n m : ℕ) (l : List ℤ) → drop (n + m) l ≡ drop m (drop n l)
drop_more zero m l = let e : 0 + m ≡ m = omega arith in ap (λ k. drop k l) e
drop_more (suc n) m [] = drop_nil (suc n + m) ∙ sym (drop_nil m)
drop_more (suc n) m (x ∷ l) = let e : suc n + m ≡ suc (n + m) = omega arith in ap (λ k. drop k (x ∷ l)) e ∙ drop_more n m l

entered_ins : (vars : List Var) (words : List ℤ) (from : ℕ) → map (entered words) (take_entries from vars) ≡ holding vars (drop from words)
entered_ins [] words from = refl
entered_ins (v ∷ vars) words from =
    ap (λ l. bound v (take (width v) (drop from words)) ∷ l) (entered_ins vars words (from + width v) ∙ ap (holding vars) (drop_more from (width v) words))

entered_zeros : (vars : List Var) (words : List ℤ) → map (entered words) (map zero_entry vars) ≡ map zeroed vars
entered_zeros [] words = refl
entered_zeros (v ∷ vars) words = ap (λ l. zeroed v ∷ l) (entered_zeros vars words)

entered_all : (seq : SeqTree) (words : List ℤ) → map (entered words) (function_of seq).entries ++ map constant seq.constants ≡ (start_of seq words).bindings
entered_all seq words =
    let f = entered words in
    let ins = take_entries 0 seq.ins in
    let outs = map zero_entry seq.outs in
    let locals = map zero_entry seq.locals in
    let constants = map constant seq.constants in
    ap (λ l. l ++ constants) (map-append f (ins ++ outs) locals ∙ ap (λ l. l ++ map f locals) (map-append f ins outs))
    ∙ ap (λ l. ((l ++ map f outs) ++ map f locals) ++ constants) (entered_ins seq.ins words 0)
    ∙ ap (λ l. ((holding seq.ins words ++ l) ++ map f locals) ++ constants) (entered_zeros seq.outs words)
    ∙ ap (λ l. ((holding seq.ins words ++ map zeroed seq.outs) ++ l) ++ constants) (entered_zeros seq.locals words)

-- a name that is declared among the first names is declared so among all
declared_front : (front back : Shapes) (name : List ℕ) (n : ℕ) → HasSizes (declared front name) n → HasSizes (declared (front ++ back) name) n
declared_front [] back name n h = absurd h
declared_front (p ∷ front) back name n h = by (bytes_eq p.0 name) (declared_front front back name n) h
  where
    by : (b : Bool) → (HasSizes (declared front name) n → HasSizes (declared (front ++ back) name) n)
        → HasSizes (cond b (Some p.1) (declared front name)) n → HasSizes (cond b (Some p.1) (declared (front ++ back) name)) n
    by true go k = k
    by false go k = go k

pub c_means : CMeans
unfolding runs_by
c_means seq words fuel can whole fits more =
    let s = start_of seq words in
    let variables = variables_in seq in
    let shapes = shapes_in seq in
    let among = declared_front variables (map scalar seq.constants) in
    let outs = vars_shapes seq.outs in
    let run = runs_by (loops_by fuel) (lines shapes seq.budget seq.body c.done) in
    let sound : IsSound variables shapes among seq.budget can.budget s = record { names = start_shapes seq words; objects = start_objects seq words can whole fits; turns = (let q : 0 ≤ seq.budget = omega arith in q) } in
    ap (λ l. called_of seq.home outs (run (record { objects = l; temps = none; turns = 0 }))) (entered_all seq words)
    ∙ forgotten seq.home outs (run (stored s none))
    ∙ ap (called_of seq.home outs)
    (statements_do variables shapes among seq.budget can.budget seq.body can.fits fuel s sound (omega (arith, more)) c.done none forget (λ m. goes (stored m none)) (λ m u sm le. refl))
    ∙ ended seq.home seq.outs (run_of seq.budget seq.body s)
