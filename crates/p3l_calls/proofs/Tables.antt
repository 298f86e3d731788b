-- Ports that are entered into a table one after another.
use Rattle.std.proofs.Common.{◌≡◌, ℕ, ◌+◌, ◌<◌, Bool, true, false, List, [], ◌∷◌, ◌++◌, length, get_or, drop, Some, refl, sym, ap, ◌∙◌, append_assoc}
use Rattle.std.specs.Prelude.{bytes_eq, cond, is_some}
use Rattle.std.specs.Map.{lookup}
use Rattle.std.specs.Cmp.Lexicographic.{same_text}
use Rattle.std.proofs.lemmas.List.{drop_more}
use Rattle.p3l_types.specs.Shape.{product}
use Rattle.p3l_body.specs.declared.var.Var.{Var}
use Rattle.p3l_calls.specs.declared.located.Located.{Located}
use Rattle.p3l_calls.specs.Port.{total}
use Rattle.p3l_calls.specs.Located.{Locations, locations, added}

-- an entry of another name makes no difference
other : (q name : List ℕ) (port : Located) (entries rest : Locations) → bytes_eq q name ≡ false →
    lookup (bytes_eq q) (entries ++ rest) ≡ lookup (bytes_eq q) (entries ++ (name, port) ∷ rest)
other q name port [] rest e = rw e refl
other q name port (x ∷ entries) rest e = ap (cond (bytes_eq q x.0) (Some x.1)) (other q name port entries rest e)

-- nor does one whose name is there before
here : (q name : List ℕ) (port : Located) (entries rest : Locations) → is_some (lookup (bytes_eq name) entries) ≡ true →
    lookup (bytes_eq q) (entries ++ rest) ≡ lookup (bytes_eq q) (entries ++ (name, port) ∷ rest)
here q name port [] rest e = absurd cc
here q name port (x ∷ entries) rest e = by (bytes_eq q x.0) refl (bytes_eq name x.0) refl (here q name port entries rest)
  where
    by : (b : Bool) → bytes_eq q x.0 ≡ b → (c : Bool) → bytes_eq name x.0 ≡ c →
        (is_some (lookup (bytes_eq name) entries) ≡ true → lookup (bytes_eq q) (entries ++ rest) ≡ lookup (bytes_eq q) (entries ++ (name, port) ∷ rest)) →
        cond (bytes_eq q x.0) (Some x.1) (lookup (bytes_eq q) (entries ++ rest)) ≡ cond (bytes_eq q x.0) (Some x.1) (lookup (bytes_eq q) (entries ++ (name, port) ∷ rest))
    by true s c t later = rw s refl
    by false s true t later =
        let same : name ≡ x.0 = same_text name x.0 (sym t) in
        rw s (other q name port entries rest (ap (bytes_eq q) same ∙ s))
    by false s false t later =
        let there : is_some (lookup (bytes_eq name) entries) ≡ true = sym (ap (λ b. is_some (cond b (Some x.1) (lookup (bytes_eq name) entries))) t) ∙ e in
        rw s (later there)

-- a port more, with those after it
pub added-lookup : (entries rest : Locations) (name : List ℕ) (port : Located) (q : List ℕ) →
    lookup (bytes_eq q) (added entries name port ++ rest) ≡ lookup (bytes_eq q) (entries ++ (name, port) ∷ rest)
added-lookup entries rest name port q = by (is_some (lookup (bytes_eq name) entries)) refl
  where
    by : (b : Bool) → is_some (lookup (bytes_eq name) entries) ≡ b →
        lookup (bytes_eq q) (cond b entries (entries ++ (name, port) ∷ []) ++ rest) ≡ lookup (bytes_eq q) (entries ++ (name, port) ∷ rest)
    by true e = here q name port entries rest e
    by false e = ap (lookup (bytes_eq q)) (append_assoc entries ((name, port) ∷ []) rest)

-- one variable more
pub locate-more : (entries : Locations) (start : ℕ) (vars : List Var) (i : ℕ) (var : Var) → i < length vars → var ≡ get_or vars i var → (q : List ℕ) →
    lookup (bytes_eq q) (added entries var.name (record { start = start; shape = var.shape }) ++ locations (start + product var.shape.sizes) (drop (i + 1) vars))
    ≡ lookup (bytes_eq q) (entries ++ locations start (drop i vars))
locate-more entries start vars i var h is q =
    added-lookup entries (locations (start + product var.shape.sizes) (drop (i + 1) vars)) var.name (record { start = start; shape = var.shape }) q
    ∙ ap (λ vs. lookup (bytes_eq q) (entries ++ locations start vs)) (ap (λ v. v ∷ drop (i + 1) vars) is ∙ sym (drop_more vars i var h))

pub total-more : (vars : List Var) (i : ℕ) (var : Var) → i < length vars → var ≡ get_or vars i var →
    total (drop i vars) ≡ product var.shape.sizes + total (drop (i + 1) vars)
total-more vars i var h is = ap total (drop_more vars i var h) ∙ ap (λ (v : Var). product v.shape.sizes + total (drop (i + 1) vars)) (sym is)
