-- New ports that are declared one after another.
use Rattle.std.proofs.Common.{◌≡◌, ℕ, ◌+◌, ◌<◌, false, List, [], ◌∷◌, ◌++◌, map, length, get_or, drop, Result, Ok, Err, refl, sym, ap, ◌∙◌, append_assoc}
use Rattle.std.specs.Prelude.{slice_get}
use Rattle.std.proofs.lemmas.List.{append-nil, map-append, drop_more}
use Rattle.p3l_ast.specs.declared.refusal.SourceRefusal.{SourceRefusal}
use Rattle.p3l_ast.specs.declared.call.OutArg.{OutArg}
use Rattle.p3l_types.specs.Verdict.{given}
use Rattle.p3l_types.specs.Constants.{Constants}
use Rattle.p3l_types.specs.Shape.{product}
use Rattle.p3l_body.specs.declared.var.Var.{Var}
use Rattle.p3l_body.specs.Scope.{Names, named}
use Rattle.p3l_calls.specs.Stage.{fresh_out, fresh_outs}
use Rattle.p3l_calls.proofs.Orders.{first-drop, after_first-drop}

-- the ports that are declared, followed by those still to be declared
abbrev pub fresh_after : Constants → Names → ℕ → List Var → List Var → List OutArg → Result (List Var) SourceRefusal
fresh_after constants names words done ports outs =
    given (fresh_outs constants names words ports outs) (λ rest. Ok (done ++ rest))

given-ok : {A : Type 0} (r : Result A SourceRefusal) → given r (λ x. Ok x) ≡ r
given-ok (Ok x) = refl
given-ok (Err e) = refl

joined : (done : List Var) (var : Var) (r : Result (List Var) SourceRefusal) →
    given (given r (λ vars. Ok (var ∷ vars))) (λ rest. Ok (done ++ rest)) ≡ given r (λ rest. Ok ((done ++ var ∷ []) ++ rest))
joined done var (Ok rest) = ap Ok (sym (append_assoc done (var ∷ []) rest))
joined done var (Err e) = refl

pub fresh_after-none : (constants : Constants) (names : Names) (words : ℕ) (ports : List Var) (outs : List OutArg) →
    fresh_after constants names words [] ports outs ≡ fresh_outs constants names words ports outs
fresh_after-none constants names words ports outs = given-ok (fresh_outs constants names words ports outs)

pub fresh_after-all : (constants : Constants) (names : Names) (words : ℕ) (done : List Var) (ports : List Var) →
    fresh_after constants names words done ports [] ≡ Ok done
fresh_after-all constants names words done ports = ap Ok (append-nil done)

module _ (constants : Constants) (names : Names) (words : ℕ) (done : List Var) (ports : List Var) (outs : List OutArg) where
  fresh-step : (k : ℕ) (d : OutArg) → k < length outs →
      fresh_outs constants names words (drop k ports) (drop k outs)
      ≡ given (fresh_out constants names words (slice_get ports k) (get_or outs k d))
      (λ var. given (fresh_outs constants (names ++ named false var ∷ []) (words + product var.shape.sizes) (drop (k + 1) ports) (drop (k + 1) outs)) (λ vars. Ok (var ∷ vars)))
  fresh-step k d h = rw (drop_more outs k d h, first-drop ports k, after_first-drop ports k) refl

  pub fresh_after-broken : (k : ℕ) (x : OutArg) (e : SourceRefusal) → k < length outs → x ≡ get_or outs k x →
      fresh_out constants names words (slice_get ports k) x ≡ Err e →
      fresh_after constants names words done (drop k ports) (drop k outs) ≡ Err e
  fresh_after-broken k x e h is broken = rw (fresh-step k x h, sym is, broken) refl

  pub fresh_after-more : (k : ℕ) (x : OutArg) (var : Var) → k < length outs → x ≡ get_or outs k x →
      fresh_out constants names words (slice_get ports k) x ≡ Ok var →
      fresh_after constants names words done (drop k ports) (drop k outs)
      ≡ fresh_after constants (names ++ named false var ∷ []) (words + product var.shape.sizes) (done ++ var ∷ []) (drop (k + 1) ports) (drop (k + 1) outs)
  fresh_after-more k x var h is found =
      rw (fresh-step k x h, sym is, found)
      (joined done var (fresh_outs constants (names ++ named false var ∷ []) (words + product var.shape.sizes) (drop (k + 1) ports) (drop (k + 1) outs)))

-- the names of one port more
pub names-more : (names : Names) (done : List Var) (var : Var) →
    (names ++ map (named false) done) ++ named false var ∷ [] ≡ names ++ map (named false) (done ++ var ∷ [])
names-more names done var =
    append_assoc names (map (named false) done) (named false var ∷ []) ∙ ap (λ more. names ++ more) (sym (map-append (named false) done (var ∷ [])))

pub ruleset ports = (fresh_after-none, fresh_after-all, fresh_after-broken, fresh_after-more, names-more)
