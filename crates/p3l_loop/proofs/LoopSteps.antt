-- The steps of what is found in a loop.
use Rattle.std.proofs.Common.{◌≡◌, ℕ, ◌&&◌, Some, None, cond, true, false, List, length, sym, ap, ap₂, ◌∙◌}
use Rattle.std.proofs.lemmas.Bool.{cond-false}
use Rattle.p3l_firing.specs.declared.token.Token.{Token}
use Rattle.p3l_template.specs.Bag.{read, numbered}
use Rattle.p3l_template.specs.Finding.{bares, if_orderly}
use Rattle.p3l_loop.specs.LoopKind.{Seen, seen_bag, is_counted, found_by}
use Rattle.p3l_template.specs.Numbered.{ordered}

module _ (turns tokens : ℕ) (v : Seen) where
  pub none_found : is_counted turns tokens v ≡ false → None ≡ if_orderly (found_by turns tokens v)
  unfolding if_orderly found_by
  none_found h = sym (cond-false _ _ _ (ap (λ b. b && numbered (seen_bag v) v.least) h))

  pub found_in_order : (bag : List Token) (least : ℕ) → bag ≡ seen_bag v → least ≡ v.least → is_counted turns tokens v ≡ true →
      ordered bag least ≡ if_orderly (found_by turns tokens v)
  unfolding if_orderly found_by ordered
  found_in_order bag least e f h =
      ap₂ (λ b n. cond (numbered b n) (Some (bares (read b n (length b)))) None) e f
      ∙ ap (λ b. cond (b && numbered (seen_bag v) v.least) (Some (bares (read (seen_bag v) v.least (length (seen_bag v))))) None) (sym h)
