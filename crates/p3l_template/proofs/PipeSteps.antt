-- The steps of what is found in a pipe, from its last stage on.
use Rattle.std.proofs.Common.{◌≡◌, ℕ, zero, suc, ◌+◌, ◌-◌, ◌<◌, ◌≤◌, List, [], ◌∷◌, ◌++◌, take, length, get_or, refl, sym, ap, ◌∙◌, arith, append_assoc, append-nil}
use Rattle.std.proofs.lemmas.List.{take_more}
use Rattle.p3l_firing.specs.State.{State}
use Rattle.p3l_firing.specs.declared.token.Token.{Token}
use Rattle.p3l_template.specs.Finding.{bares}
use Rattle.p3l_template.specs.PipeKind.{after_stages, in_stages, waiting}

module _ (s : State) where
  -- one stage more behind the others
  after_last : (q : List Token) (c : ℕ) (ps : List (List Token)) (p : List Token) →
      after_stages s q c (ps ++ p ∷ []) ≡ bares p ++ (bares (s.tokens (c + length ps)) ++ after_stages s q c ps)
  unfolding after_stages
  after_last q c [] p = ap (λ n. bares p ++ (bares (s.tokens n) ++ q)) (omega arith)
  after_last q c (r ∷ ps) p =
      after_last (bares r ++ (bares (s.tokens c) ++ q)) (suc c) ps p
      ∙ ap (λ n. bares p ++ (bares (s.tokens n) ++ after_stages s (bares r ++ (bares (s.tokens c) ++ q)) (suc c) ps)) (omega arith)

  in_last : (c : ℕ) (ps : List (List Token)) (p : List Token) →
      in_stages s c (ps ++ p ∷ []) ≡ (bares p ++ waiting s c (length ps)) ++ in_stages s c ps
  unfolding in_stages after_stages waiting
  in_last c [] p = sym (append-nil (bares p ++ []) ∙ append-nil (bares p))
  in_last c (r ∷ ps) p = after_last (bares r) c ps p ∙ sym (append_assoc (bares p) _ _)

  take_length : (ps : List (List Token)) (i : ℕ) → i ≤ length ps → length (take i ps) ≡ i
  take_length [] zero l = refl
  take_length [] (suc i) l = absurd (omega (arith, l))
  take_length (p ∷ ps) zero l = refl
  take_length (p ∷ ps) (suc i) l = ap suc (take_length ps i (omega (arith, l)))

  pub stage_more : (c i : ℕ) (ps : List (List Token)) (p list : List Token) → i < length ps → p ≡ get_or ps i p →
      (list ++ (bares p ++ waiting s c i)) ++ in_stages s c (take i ps) ≡ list ++ in_stages s c (take (i + 1) ps)
  stage_more c i ps p list l h =
      append_assoc list _ _
      ∙ ap (λ n. list ++ ((bares p ++ waiting s c n) ++ in_stages s c (take i ps))) (sym (take_length ps i (omega (arith, l))))
      ∙ ap (λ z. list ++ z) (sym (in_last c (take i ps) p))
      ∙ ap (λ z. list ++ in_stages s c z) (sym (take_more ps i p l ∙ ap (λ z. take i ps ++ z ∷ []) (sym h)))

  pub stage_end : (c : ℕ) (ps : List (List Token)) (list : List Token) → list ≡ list ++ in_stages s c (take 0 ps)
  unfolding in_stages
  stage_end c ps list = sym (append-nil list)

  pub stage_first : (c : ℕ) (ps : List (List Token)) → in_stages s c (take (length ps - 0) ps) ≡ in_stages s c ps
  stage_first c ps =
      let all : length ps - 0 ≡ length ps = omega arith in
      ap (λ n. in_stages s c (take n ps)) all ∙ ap (in_stages s c) (take_all ps)
    where
      take_all : (qs : List (List Token)) → take (length qs) qs ≡ qs
      take_all [] = refl
      take_all (q ∷ qs) = ap (λ z. q ∷ z) (take_all qs)
