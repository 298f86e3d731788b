-- The bodies of a program in the order of its modules.
use Rattle.std.proofs.Common.{◌≡◌, ℕ, zero, suc, ◌+◌, ◌≤◌, cond, List, [], ◌∷◌, ◌++◌, map, Option, Some, None, Result, Ok, Err, IfOk, sym, ◌∙◌, subst, arith}
use Rattle.std.specs.Prelude.{IfSome, slice_get}
use Rattle.std.specs.List.{AllByRecursion}
use Rattle.p3l_ast.specs.declared.module.Kind.{Kind}
use Rattle.p3l_ast.specs.declared.module.Kind.TheVariants as kinds
use Rattle.p3l_ast.specs.declared.refusal.SourceRefusal.{SourceRefusal}
use Rattle.p3l_ast.specs.Tree.{ModuleTree, EntryTree, constant, defined}
use Rattle.p3l_types.specs.Constants.{Constants}
use Rattle.p3l_body.specs.Seq.{SeqTree, checked_seq}
use Rattle.p3l_skel.specs.declared.tree.ModuleInfo.{ModuleInfo}
use Rattle.p3l_units.specs.Table.{is_seq_kind, one_if_seq, seqs_before, if_seq, item_of}
use Rattle.p3l_compile.specs.Condition.{IsCompilable}
use Rattle.p3l_body_laws.specs.Checked.{BodyCompiles, checked_first, AreChecked, kind_of, kinds_of, BodiesCompile, BodiesServe}
use Rattle.p3l_body_laws.proofs.Passages.{InsideKeeps, EntryKeeps, spelled_keeps}
use Rattle.p3l_body_laws.proofs.Bodies.{compilable, checked_home}

-- a property of a result's value holds of this one, if the result is this one
kept_by : {A : Type 0} (r : Result A SourceRefusal) (x : A) (P : A → Type 0) → IfOk r P → r ≡ Ok x → P x
kept_by (Ok y) x P h e = let same : y ≡ x = cc in subst P same h
kept_by (Err f) x P h e = absurd cc

all_compile : (n : ℕ) (constants : Constants) (home : ℕ) (entries : List EntryTree) (seqs : List SeqTree) → n ≤ 1048576 →
    AllByRecursion (EntryKeeps n) entries → AreChecked constants home entries seqs → AllByRecursion IsCompilable seqs
all_compile n constants home [] [] short keep are = tt
all_compile n constants home [] (seq ∷ seqs) short keep are = absurd are
all_compile n constants home (constant x value ∷ entries) seqs short keep are =
    all_compile n (constants ++ (x.name, value) ∷ []) home entries seqs short keep.1 are
all_compile n constants home (defined m ∷ entries) seqs short keep are =
    by m.kind seqs (λ others rest. all_compile n constants (home + 1) entries others short keep.1 rest) are
  where
    by : (kind : Kind) (bodies : List SeqTree) → ((others : List SeqTree) → AreChecked constants (home + 1) entries others → AllByRecursion IsCompilable others) →
        checked_first kind (checked_seq constants home m) (AreChecked constants (home + 1) entries) bodies → AllByRecursion IsCompilable bodies
    by kinds.Seq [] go h = absurd h
    by kinds.Seq (seq ∷ others) go h =
        (kept_by (checked_seq constants home m) seq IsCompilable (compilable n constants home m short keep.0) h.0, go others h.1)
    by kinds.Comp bodies go h = go bodies h
    by kinds.Pipe bodies go h = go bodies h
    by kinds.Farm bodies go h = go bodies h
    by kinds.Map bodies go h = go bodies h
    by kinds.Reduce bodies go h = go bodies h
    by kinds.Loop bodies go h = go bodies h

-- the body of a module has its number
abbrev IsNumbered : ℕ → Option SeqTree → Type 0
IsNumbered number o = IfSome o (λ seq. seq.home ≡ number)

-- the number of the first module's body
first_numbered : (home : ℕ) (checked : Result SeqTree SourceRefusal) (others : List SeqTree → Type 0) (kind : Kind) (seqs : List SeqTree) → IfOk checked (λ seq. seq.home ≡ home) →
    checked_first kind checked others seqs → IsNumbered (home + 0) (cond (is_seq_kind (kind_of kind)) (slice_get seqs 0) None)
first_numbered home checked others kinds.Seq [] has h = absurd h
first_numbered home checked others kinds.Seq (seq ∷ seqs) has h =
    kept_by checked seq (λ s. s.home ≡ home) has h.0 ∙ omega arith
first_numbered home checked others kinds.Comp seqs has h = tt
first_numbered home checked others kinds.Pipe seqs has h = tt
first_numbered home checked others kinds.Farm seqs has h = tt
first_numbered home checked others kinds.Map seqs has h = tt
first_numbered home checked others kinds.Reduce seqs has h = tt
first_numbered home checked others kinds.Loop seqs has h = tt

-- and that of a later one's
later_numbered : (number : ℕ) (checked : Result SeqTree SourceRefusal) (others : List SeqTree → Type 0) (modules : List ModuleInfo) (k : ℕ) (kind : Kind) (seqs : List SeqTree) →
    ((rest : List SeqTree) → others rest → IsNumbered number (item_of modules rest k)) → checked_first kind checked others seqs →
    IsNumbered number (if_seq (slice_get modules k) (slice_get seqs (one_if_seq (kind_of kind) + seqs_before modules k)))
later_numbered number checked others modules k kind seqs go = by kind seqs
  where
    none_more : (rest : List SeqTree) → others rest → IsNumbered number (if_seq (slice_get modules k) (slice_get rest (0 + seqs_before modules k)))
    none_more rest h =
        subst (λ i. IsNumbered number (if_seq (slice_get modules k) (slice_get rest i))) (omega arith) (go rest h)

    by : (kind : Kind) (bodies : List SeqTree) → checked_first kind checked others bodies →
        IsNumbered number (if_seq (slice_get modules k) (slice_get bodies (one_if_seq (kind_of kind) + seqs_before modules k)))
    by kinds.Seq [] h = absurd h
    by kinds.Seq (seq ∷ rest) h =
        let e : suc (seqs_before modules k) ≡ 1 + seqs_before modules k = omega arith in
        subst (λ i. IsNumbered number (if_seq (slice_get modules k) (slice_get (seq ∷ rest) i))) e (go rest h.1)
    by kinds.Comp bodies h = none_more bodies h
    by kinds.Pipe bodies h = none_more bodies h
    by kinds.Farm bodies h = none_more bodies h
    by kinds.Map bodies h = none_more bodies h
    by kinds.Reduce bodies h = none_more bodies h
    by kinds.Loop bodies h = none_more bodies h

numbered : (constants : Constants) (home : ℕ) (entries : List EntryTree) (seqs : List SeqTree) (modules : List ModuleInfo) (k : ℕ) →
    map (λ (info : ModuleInfo). info.kind) modules ≡ kinds_of entries → AreChecked constants home entries seqs → IsNumbered (home + k) (item_of modules seqs k)
numbered constants home [] seqs [] k same are = tt
numbered constants home [] seqs (info ∷ modules) k same are = absurd cc
numbered constants home (constant x value ∷ entries) seqs modules k same are =
    numbered (constants ++ (x.name, value) ∷ []) home entries seqs modules k same are
numbered constants home (defined m ∷ entries) seqs [] k same are = absurd cc
numbered constants home (defined m ∷ entries) seqs (info ∷ modules) zero same are =
    let kind : info.kind ≡ kind_of m.kind = cc in
    subst (λ t. IsNumbered (home + 0) (cond (is_seq_kind t) (slice_get seqs 0) None)) (sym kind)
    (first_numbered home (checked_seq constants home m) (AreChecked constants (home + 1) entries) m.kind seqs (checked_home constants home m) are)
numbered constants home (defined m ∷ entries) seqs (info ∷ modules) (suc k) same are =
    let kind : info.kind ≡ kind_of m.kind = cc in
    let others : map (λ (i : ModuleInfo). i.kind) modules ≡ kinds_of entries = cc in
    subst (λ t. IsNumbered (home + suc k) (if_seq (slice_get modules k) (slice_get seqs (one_if_seq t + seqs_before modules k)))) (sym kind)
    (later_numbered (home + suc k) (checked_seq constants home m) (AreChecked constants (home + 1) entries) modules k m.kind seqs
    (λ rest h. subst (λ n. IsNumbered n (item_of modules rest k)) (omega arith) (numbered constants (home + 1) entries rest modules k others h)) are)

-- a limit kept by all entries is kept by the module at a place
kept_at : (n : ℕ) (entries : List EntryTree) (place : ℕ) (m : ModuleTree) → AllByRecursion (EntryKeeps n) entries → slice_get entries place ≡ Some (defined m) → InsideKeeps n m.inside
kept_at n [] place m keep there = absurd cc
kept_at n (entry ∷ entries) zero m keep there = let same : entry ≡ defined m = cc in subst (EntryKeeps n) same keep.0
kept_at n (entry ∷ entries) (suc place) m keep there = kept_at n entries place m keep.1 there

pub body_compiles : BodyCompiles
body_compiles bytes program seq source is =
    let keeps = kept_at _ program.entries is.place is.checks (spelled_keeps bytes program source.spelled) is.there in
    kept_by (checked_seq is.constants is.home is.checks) seq IsCompilable (compilable _ is.constants is.home is.checks source.short keeps) is.checked

pub bodies_compile : BodiesCompile
bodies_compile bytes program seqs source are =
    all_compile _ [] 0 program.entries seqs source.short (spelled_keeps bytes program source.spelled) are

pub bodies_serve : BodiesServe
bodies_serve bytes program seqs tree source are tree_of = record {
  compilable = bodies_compile bytes program seqs source are;
  numbered = λ m. subst (λ n. IsNumbered n (item_of tree.modules seqs m)) (omega arith) (numbered [] 0 program.entries seqs tree.modules m tree_of.same_kinds are);
  words = tree_of.words;
}
