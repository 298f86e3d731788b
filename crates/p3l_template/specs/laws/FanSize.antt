-- THE SIZE of a part round workers. Inside it are the tokens that its two processes hold, and those of each worker: in the
-- channels beside it and inside it (`fan_inside`). They bound the lines of the workers and what is due in these (`lines_bound`,
-- `dues_bound`).
use Rattle.std.proofs.Common.{◌≡◌, ℕ, suc, ◌+◌, ◌*◌, ◌≤◌, ◌<◌, true, List, length, get_or, ap, ap₂, ◌∙◌, arith}
use Rattle.p3l_firing.specs.State.{State}
use Rattle.p3l_firing.specs.declared.net.Net.{Net}
use Rattle.p3l_template.specs.Fan.{Fanned, fan_part}
use Rattle.p3l_template.specs.Part.{Part, IsSized, in_hands, inside, line, due, no_part, all_orderly}
use Rattle.p3l_template.specs.Shape.{Role, Base}
use Rattle.p3l_template.specs.Sum.{sum_of}
use Rattle.p3l_template.specs.Units.{Units}
use Rattle.p3l_template.specs.laws.Chain.{all_at}
use Rattle.p3l_template.specs.laws.Fan.{Fan}
use Rattle.p3l_template.specs.laws.Inside.{channels_split, around_inside, line_length, channels_sum, insides_sum}
use Rattle.p3l_template.specs.laws.SumLaw.{sum_le, sum_times, sum_add}

module _ (net : Net) (units : Units) (roles : ℕ → Role) (n : ℕ) (base : Base) (Ps : List Part)
    (fan : Fan net units roles n base Ps) (s : State) where
  -- the tokens in the channels beside worker w, and inside it
  abbrev pub worker_holds : ℕ → ℕ
  worker_holds w = (length (s.tokens (base.chan + w)) + length (s.tokens (base.chan + n + w))) + inside (get_or Ps w no_part) s

  pub fan_inside : (fanned : Fanned) →
      inside (fan_part n fanned units roles base Ps) s
      ≡ (length (s.own base.proc).held + length (s.own (base.proc + 1)).held) + sum_of worker_holds n
  unfolding inside in_hands
  fan_inside fanned =
      let i = around_inside net units roles base.proc base.chan 2 (n + n) _ Ps fan.chained s in
      let c = channels_split s base.chan n n in
      let a = sum_add (λ w. length (s.tokens (base.chan + w)) + length (s.tokens (base.chan + n + w)))
      (λ w. inside (get_or Ps w no_part) s) n in
      let b = sum_add (λ w. length (s.tokens (base.chan + w))) (λ w. length (s.tokens (base.chan + n + w))) n in
      let d = channels_sum s base.chan n in
      let e = channels_sum s (base.chan + n) n in
      let f = insides_sum Ps s ∙ ap (sum_of (λ w. inside (get_or Ps w no_part) s)) fan.all.count in
      let o : length (s.own (suc base.proc)).held ≡ length (s.own (base.proc + 1)).held =
      ap (λ x. length (s.own x).held) (omega arith) in
      omega (arith, i, c, a, b, d, e, f, o)

  module _ (orderly : all_orderly Ps s ≡ true) where
    sized : (w : ℕ) → w < n → IsSized (get_or Ps w no_part) s
    sized w l = (fan.all.lawful w l).size s (all_at Ps s orderly w (fan.all.within w l))

    line_bound : (w : ℕ) → w < n → length (line (get_or Ps w no_part) s) ≤ worker_holds w
    line_bound w l =
        let x = ap (λ z. length (s.tokens z)) (fan.all.input w l) in
        let y = ap (λ z. length (s.tokens z)) (fan.all.output w l) in
        omega (arith, line_length (get_or Ps w no_part) s, x, y, (sized w l).pending)

    due_bound : (w : ℕ) → w < n →
        due (get_or Ps w no_part) s + length (line (get_or Ps w no_part) s) ≤ (1 + (roles 0).firings) * worker_holds w
    unfolding due
    due_bound w l =
        let x = ap₂ (λ y z. y * length (s.tokens z)) (fan.all.firings w l) (fan.all.input w l) in
        let y = ap (λ z. z * inside (get_or Ps w no_part) s) (fan.all.firings w l) in
        let z : (1 + (roles 0).firings) * worker_holds w
        ≡ worker_holds w
        + (((roles 0).firings * length (s.tokens (base.chan + w)) + (roles 0).firings
        * length (s.tokens (base.chan + n + w))) + (roles 0).firings * inside (get_or Ps w no_part) s) = omega arith in
        omega (arith, x, y, z, line_bound w l, (sized w l).owed)

    pub lines_bound : sum_of (λ w. length (line (get_or Ps w no_part) s)) n ≤ sum_of worker_holds n
    lines_bound = sum_le (λ w. length (line (get_or Ps w no_part) s)) worker_holds n line_bound

    pub dues_bound : sum_of (λ w. due (get_or Ps w no_part) s + length (line (get_or Ps w no_part) s)) n
        ≤ (1 + (roles 0).firings) * sum_of worker_holds n
    dues_bound =
        let a = sum_le (λ w. due (get_or Ps w no_part) s + length (line (get_or Ps w no_part) s))
        (λ w. (1 + (roles 0).firings) * worker_holds w) n due_bound in
        let b = sum_times (1 + (roles 0).firings) worker_holds n in
        omega (arith, a, b)
