-- Brackets that are looked at one after another, with the sizes of their dimensions.
use Rattle.std.proofs.Common.{◌≡◌, ℕ, ◌+◌, ◌<◌, ◌≤◌, List, [], ◌∷◌, ◌++◌, length, get_or, drop, Ok, Err, refl, sym, ap, ◌∙◌, append_assoc}
use Rattle.std.proofs.lemmas.List.{drop_more, drop_all, append-nil}
use Rattle.p3l_ast.specs.declared.refusal.SourceRefusal.{SourceRefusal}
use Rattle.p3l_ast.specs.declared.call.Sub.{Sub}
use Rattle.p3l_types.specs.Verdict.{kept}
use Rattle.p3l_calls.specs.declared.index.Index.{Index}
use Rattle.p3l_calls.specs.Index.{index_in, indices_in, size_rule, sizes_rule}

-- one bracket more
pub indices-more : (indices : List Index) (subs : List Sub) (sizes : List ℕ) (k : ℕ) (sub : Sub) →
    k < length sizes → k < length subs → sub ≡ get_or subs k sub →
    (indices ++ index_in sub (get_or sizes k 0)) ++ indices_in (drop (k + 1) subs) (drop (k + 1) sizes)
    ≡ indices ++ indices_in (drop k subs) (drop k sizes)
indices-more indices subs sizes k sub h g is =
    rw (drop_more sizes k 0 h, drop_more subs k sub g, sym is)
    (append_assoc indices (index_in sub (get_or sizes k 0)) (indices_in (drop (k + 1) subs) (drop (k + 1) sizes)))

-- no bracket more
no_indices : (sizes : List ℕ) → indices_in [] sizes ≡ []
no_indices [] = refl
no_indices (size ∷ sizes) = refl

pub indices-end : (indices : List Index) (subs : List Sub) (sizes : List ℕ) (k : ℕ) → length subs ≤ k →
    indices ++ indices_in (drop k subs) (drop k sizes) ≡ indices
indices-end indices subs sizes k h = rw (drop_all k subs h) (ap (λ more. indices ++ more) (no_indices (drop k sizes)) ∙ append-nil indices)

no_sizes : (indices : List Index) (sizes : List ℕ) → sizes_rule indices [] sizes ≡ kept
no_sizes indices [] = refl
no_sizes indices (size ∷ sizes) = refl

pub sizes-end : (indices : List Index) (subs : List Sub) (sizes : List ℕ) (k : ℕ) → length subs ≤ k →
    sizes_rule indices (drop k subs) (drop k sizes) ≡ kept
sizes-end indices subs sizes k h = rw (drop_all k subs h) (no_sizes indices (drop k sizes))

pub sizes-kept : (indices : List Index) (subs : List Sub) (sizes : List ℕ) (k : ℕ) (sub : Sub) (u : Unit {0}) →
    k < length sizes → k < length subs → sub ≡ get_or subs k sub → size_rule indices sub (get_or sizes k 0) ≡ Ok u →
    sizes_rule indices (drop k subs) (drop k sizes) ≡ sizes_rule indices (drop (k + 1) subs) (drop (k + 1) sizes)
sizes-kept indices subs sizes k sub u h g is e = rw (drop_more sizes k 0 h, drop_more subs k sub g, sym is, e) refl

pub sizes-broken : (indices : List Index) (subs : List Sub) (sizes : List ℕ) (k : ℕ) (sub : Sub) (e : SourceRefusal) →
    k < length sizes → k < length subs → sub ≡ get_or subs k sub → size_rule indices sub (get_or sizes k 0) ≡ Err e →
    sizes_rule indices (drop k subs) (drop k sizes) ≡ Err e
sizes-broken indices subs sizes k sub e h g is broken = rw (drop_more sizes k 0 h, drop_more subs k sub g, sym is, broken) refl

pub ruleset brackets = (indices-more, indices-end, sizes-end, sizes-kept, sizes-broken)
