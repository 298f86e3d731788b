-- THE STEP OF ALL INDUCTIONS OVER TEMPLATES: any lawful template, placed round sound parts, is a sound part (`shape_sound`). By it every
-- placed node of a tree is one, and a template of templates is lawful.
use Rattle.std.proofs.Common.{◌≡◌, ◌≢◌, ℕ, zero, suc, ◌+◌, ◌-◌, ◌≤◌, ◌<◌, inl, inr, List, [], ◌∷◌, ◌++◌, length, get_or, refl, sym, ap, ap₂, ◌∙◌, subst, subst₂, arith, le_refl, length-append}
use Rattle.p3l_firing.specs.declared.net.Chan.{Chan}
use Rattle.p3l_firing.specs.declared.net.Net.{Net}
use Rattle.p3l_firing.specs.State.{chan_at, no_chan}
use Rattle.p3l_template.specs.Part.{Part}
use Rattle.p3l_template.specs.Placed.{IsLawfulShape, IsGoodBase, IsPlaced, AreStanding, AreLaid, AreChained, HaveRoom, proc_end, chan_end}
use Rattle.p3l_template.specs.Shape.{Blueprint, Role, Base, Slot, no_slot}
use Rattle.p3l_template.specs.Units.{Units}
use Rattle.p3l_template.specs.laws.Row.{stands_split}
use Rattle.p3l_link.specs.Laws.{IsPartAt}
use Rattle.p3l_link.specs.Net.{Piece, base_at, inner_pieces, whole_piece}
use Rattle.p3l_link.specs.Part.{inner_parts, whole_part}

get_left : (xs ys : List Chan) (k : ℕ) → k < length xs → get_or (xs ++ ys) k no_chan ≡ get_or xs k no_chan
get_left [] ys k h = absurd (omega arith)
get_left (x ∷ xs) ys zero h = refl
get_left (x ∷ xs) ys (suc k) h = get_left xs ys k (omega arith)

get_right : (xs ys : List Chan) (k : ℕ) → get_or (xs ++ ys) (length xs + k) no_chan ≡ get_or ys k no_chan
get_right [] ys k = ap (λ z. get_or ys z no_chan) (omega arith)
get_right (x ∷ xs) ys k = let e : length (x ∷ xs) + k ≡ suc (length xs + k) = omega arith in
    ap (λ z. get_or ((x ∷ xs) ++ ys) z no_chan) e ∙ get_right xs ys k

-- channels that are laid one after the other
pub laid_split : (net : Net) (c : ℕ) (xs ys : List Chan) → AreLaid net c (xs ++ ys) → AreLaid net c xs × AreLaid net (c + length xs) ys
laid_split net c xs ys h =
    let len = length-append xs ys in (
      record { at = λ k l. h.at k (omega (arith, len, l)) ∙ get_left xs ys k l },
      record {
        at = λ k l. let e : (c + length xs) + k ≡ c + (length xs + k) = omega arith in
            ap (chan_at net) e ∙ h.at (length xs + k) (omega (arith, len, l)) ∙ get_right xs ys k;
      },
    )

-- a slot between channels below `low`, of which the second has room for a token
record IsUsable (net : Net) (low : ℕ) (x : Slot) : Type 0 where
  input : x.input < low
  output : x.output < low
  apart : x.input ≢ x.output
  room : 0 < (chan_at net x.output).cap

-- inner parts of which each is sound wherever it is placed, if it may be placed
module _ (net : Net) (units : Units) (May : ℕ → Type 0) (roles : ℕ → Role) (piece : ℕ → Base → Piece) (part : ℕ → Base → Part)
    (each : (v : ℕ) (b : Base) → May v → IsGoodBase net b → AreStanding net b.proc (piece v b).procs →
    AreLaid net b.chan (piece v b).chans → IsPartAt net units (roles v) b (piece v b) (part v b)) (low : ℕ) where
  record AreInner (xs : List Slot) (p c : ℕ) : Type 0 where
    chain : AreChained net units roles p c xs (inner_parts part xs p c)
    procs : proc_end p (inner_parts part xs p c) ≡ p + length (inner_pieces piece xs p c).procs
    chans : chan_end c (inner_parts part xs p c) ≡ c + length (inner_pieces piece xs p c).chans

  inner_sound : (xs : List Slot) (p c : ℕ) → low ≤ c →
      ((v : ℕ) → v < length xs → May (get_or xs v no_slot).part) →
      ((v : ℕ) → v < length xs → IsUsable net low (get_or xs v no_slot)) →
      AreStanding net p (inner_pieces piece xs p c).procs → AreLaid net c (inner_pieces piece xs p c).chans → AreInner xs p c
  unfolding inner_pieces inner_parts AreChained proc_end chan_end
  inner_sound [] p c l may usable s o = record { chain = tt; procs = omega arith; chans = omega arith }
  inner_sound (x ∷ xs) p c l may usable s o =
      let b : Base = base_at x p c in
      let F : Piece = piece x.part b in
      let v = usable 0 (omega arith) in
      let after_p : ℕ = p + length F.procs in
      let after_c : ℕ = c + length F.chans in
      let ss = stands_split net p F.procs (inner_pieces piece xs after_p after_c).procs s in
      let oo = laid_split net c F.chans (inner_pieces piece xs after_p after_c).chans o in
      let r : IsPartAt net units (roles x.part) b F (part x.part b) =
      each x.part b (may 0 (omega arith)) (record {
        input = omega (arith, v.input);
        output = omega (arith, v.output);
        apart = v.apart;
        room = v.room;
      }) ss.0 oo.0 in
      let q = inner_sound xs after_p after_c (omega arith) (λ k h. may (suc k) (omega arith))
      (λ k h. usable (suc k) (omega arith)) ss.1 oo.1 in
      record {
        chain = (
          record {
            input = r.input;
            output = r.output;
            proc = r.proc_from;
            chan = r.chan_from;
            meaning = r.meaning;
            firings = r.firings;
            lawful = r.lawful;
          },
          subst₂ (λ y z. AreChained net units roles y z xs (inner_parts part xs y z)) (sym r.proc_to) (sym r.chan_to) q.chain,
        );
        procs = ap₂ (λ y z. proc_end y (inner_parts part xs y z)) r.proc_to r.chan_to ∙ q.procs
            ∙ omega (arith, length-append F.procs (inner_pieces piece xs after_p after_c).procs);
        chans = ap₂ (λ y z. chan_end z (inner_parts part xs y z)) r.proc_to r.chan_to ∙ q.chans
            ∙ omega (arith, length-append F.chans (inner_pieces piece xs after_p after_c).chans);
      }

-- any lawful template, placed round sound parts
module _ (net : Net) (units : Units) (shape : Blueprint) (law : IsLawfulShape shape) (May : ℕ → Type 0) (roles : ℕ → Role)
    (piece : ℕ → Base → Piece) (part : ℕ → Base → Part) (cap : ℕ) (pos : 0 < cap)
    (each : (v : ℕ) (b : Base) → May v → IsGoodBase net b → AreStanding net b.proc (piece v b).procs →
    AreLaid net b.chan (piece v b).chans → IsPartAt net units (roles v) b (piece v b) (part v b)) (base : Base) where
  -- the first process and the first channel of its inner parts
  abbrev first_proc : ℕ
  first_proc = base.proc + length (shape.procs base)

  abbrev first_chan : ℕ
  first_chan = base.chan + shape.chans base

  abbrev inner : Piece
  inner = inner_pieces piece (shape.slots base) first_proc first_chan

  pub shape_sound : ((v : ℕ) → v < length (shape.slots base) → May (get_or (shape.slots base) v no_slot).part) → IsGoodBase net base →
      AreStanding net base.proc (whole_piece shape cap piece base).procs →
      AreLaid net base.chan (whole_piece shape cap piece base).chans →
      IsPartAt net units (record { meaning = shape.meaning units roles; firings = shape.firings units roles }) base
      (whole_piece shape cap piece base) (whole_part shape units roles part base)
  shape_sound may good s o =
      let ss = stands_split net base.proc (shape.procs base) inner.procs s in
      let oo = laid_split net base.chan (shape.laid cap base) inner.chans o in
      let n = law.laid cap base in
      let rooms : HaveRoom net base.chan (shape.chans base) = record {
        room = λ k a b.
            let e : base.chan + (k - base.chan) ≡ k = omega (arith, a) in
            let l : k - base.chan < length (shape.laid cap base) = omega (arith, n, a, b) in
            subst (λ z. 0 < z.cap) (sym (ap (chan_at net) (sym e) ∙ oo.0.at (k - base.chan) l))
            (law.rooms cap base (k - base.chan) pos l);
      } in
      let q = inner_sound net units May roles piece part each first_chan (shape.slots base) first_proc first_chan (le_refl _) may
      (λ v h. let g = law.slots net base good v (omega (arith, h, law.count base)) in
      record {
        input = g.input;
        output = g.output;
        apart = g.apart;
        room = elim g.out [
          | inl e ↦ subst (λ z. 0 < (chan_at net z).cap) (sym e) good.room
          | inr e ↦ rooms.room _ e g.output
        ];
      })
      ss.1 (subst (λ z. AreLaid net (base.chan + z) inner.chans) n oo.1) in
      let parts : List Part = inner_parts part (shape.slots base) first_proc first_chan in
      let placed : IsPlaced net units roles shape base parts =
      record { good = good; procs = ss.0; chans = rooms; cap = cap; pos = pos; laid = oo.0; inner = q.chain } in
      let l = law.lies net units roles base parts placed in
      record {
        lawful = law.lawful net units roles base parts placed;
        meaning = l.meaning;
        firings = l.firings;
        input = l.input;
        output = l.output;
        proc_from = l.proc_from;
        chan_from = l.chan_from;
        proc_to = l.proc_to ∙ q.procs ∙ omega (arith, length-append (shape.procs base) inner.procs);
        chan_to = l.chan_to ∙ q.chans ∙ omega (arith, n, length-append (shape.laid cap base) inner.chans);
      }
