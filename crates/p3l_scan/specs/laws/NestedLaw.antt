-- The law of templates of templates (`nested_lawful`): a lawful template, with lawful ones at its slots, is lawful.
use Rattle.std.proofs.Common.{◌≡◌, ◌≢◌, ℕ, zero, suc, ◌+◌, ◌-◌, ◌≤◌, ◌<◌, List, [], ◌∷◌, ◌++◌, length, get_or, refl, sym, ap, ◌∙◌, subst, arith, length-append}
use Rattle.p3l_firing.specs.declared.net.Chan.{Chan}
use Rattle.p3l_firing.specs.declared.net.Net.{Net}
use Rattle.p3l_firing.specs.State.{chan_at, no_chan}
use Rattle.p3l_link.specs.Laws.{IsPartAt}
use Rattle.p3l_link.specs.Net.{base_at, inner_pieces, own_piece}
use Rattle.p3l_link.proofs.ShapeSound.{shape_sound}
use Rattle.p3l_scan.specs.Nested.{AreInner, closed_part, closed_role, nested, nested_piece, no_role}
use Rattle.p3l_template.specs.Part.{Part}
use Rattle.p3l_template.specs.Placed.{IsLawfulShape, IsGoodBase, IsPlaced, LiesAt, AreStanding, AreLaid, AreChained, HaveRoom, proc_end, chan_end}
use Rattle.p3l_template.specs.Shape.{Blueprint, Role, Base, Slot, no_slot}
use Rattle.p3l_template.specs.Units.{Units}

none : {A : Type 0} (xs : List A) → length xs ≡ 0 → xs ≡ []
none [] e = refl
none (x ∷ xs) e = absurd (omega arith)

-- each slot of a template without inner parts
pub no_slots : (shape : Blueprint) → IsLawfulShape shape → shape.inner ≡ 0 → (base : Base) → shape.slots base ≡ []
no_slots shape law closed base = none (shape.slots base) (law.count base ∙ closed)

laid_rooms : (net : Net) (shape : Blueprint) (law : IsLawfulShape shape) (cap : ℕ) → 0 < cap → (base : Base) →
    AreLaid net base.chan (shape.laid cap base) → HaveRoom net base.chan (shape.chans base)
laid_rooms net shape law cap pos base o =
    let n = law.laid cap base in
    record {
      room = λ k a b.
          let e : base.chan + (k - base.chan) ≡ k = omega (arith, a) in
          let l : k - base.chan < length (shape.laid cap base) = omega (arith, n, a, b) in
          subst (λ z. 0 < z.cap) (sym (ap (chan_at net) (sym e) ∙ o.at (k - base.chan) l))
          (law.rooms cap base (k - base.chan) pos l);
    }

-- a lawful template without inner parts is sound wherever it is placed
closed_sound : (net : Net) (units : Units) (shape : Blueprint) (law : IsLawfulShape shape) → shape.inner ≡ 0 → (cap : ℕ) →
    0 < cap → (base : Base) → IsGoodBase net base → AreStanding net base.proc (shape.procs base) →
    AreLaid net base.chan (shape.laid cap base) →
    IsPartAt net units (closed_role units shape) base (own_piece shape cap base) (closed_part units shape base)
unfolding AreChained proc_end chan_end
closed_sound net units shape law closed cap pos base good s o =
    let placed : IsPlaced net units (λ v. no_role) shape base [] =
    record {
      good = good;
      procs = s;
      chans = laid_rooms net shape law cap pos base o;
      cap = cap;
      pos = pos;
      laid = o;
      inner = subst (λ xs. AreChained net units (λ v. no_role) (base.proc + length (shape.procs base))
          (base.chan + shape.chans base) xs []) (sym (no_slots shape law closed base)) tt;
    } in
    let l = law.lies net units (λ v. no_role) base [] placed in
    record {
      lawful = law.lawful net units (λ v. no_role) base [] placed;
      meaning = l.meaning;
      firings = l.firings;
      input = l.input;
      output = l.output;
      proc_from = l.proc_from;
      chan_from = l.chan_from;
      proc_to = l.proc_to;
      chan_to = l.chan_to ∙ omega (arith, law.laid cap base);
    }

-- at each capacity the inner templates have the same processes, and as many channels
module _ (inner : ℕ → Blueprint) (a b : ℕ) where
  AreLawfulAt : List Slot → Type 0
  AreLawfulAt xs = (v : ℕ) → v < length xs → IsLawfulShape (inner (get_or xs v no_slot).part)

  same_procs : (xs : List Slot) (p c : ℕ) → AreLawfulAt xs →
      (inner_pieces (λ v. own_piece (inner v) a) xs p c).procs ≡ (inner_pieces (λ v. own_piece (inner v) b) xs p c).procs
  unfolding inner_pieces AreLawfulAt
  same_procs [] p c laws = refl
  same_procs (x ∷ xs) p c laws =
      let here : Blueprint = inner x.part in
      let base : Base = base_at x p c in
      let law : IsLawfulShape here = laws 0 (omega arith) in
      let e : length (here.laid a base) ≡ length (here.laid b base) = law.laid a base ∙ sym (law.laid b base) in
      ap (λ z. here.procs base ++ z) (ap (λ n. (inner_pieces (λ v. own_piece (inner v) a) xs (p + length (here.procs base))
      (c + n)).procs) e ∙ same_procs xs (p + length (here.procs base)) (c + length (here.laid b base))
      (λ v l. laws (suc v) (omega arith)))

  same_count : (xs : List Slot) (p c : ℕ) → AreLawfulAt xs →
      length (inner_pieces (λ v. own_piece (inner v) a) xs p c).chans
      ≡ length (inner_pieces (λ v. own_piece (inner v) b) xs p c).chans
  unfolding inner_pieces AreLawfulAt
  same_count [] p c laws = refl
  same_count (x ∷ xs) p c laws =
      let here : Blueprint = inner x.part in
      let base : Base = base_at x p c in
      let law : IsLawfulShape here = laws 0 (omega arith) in
      let e : length (here.laid a base) ≡ length (here.laid b base) = law.laid a base ∙ sym (law.laid b base) in
      let after : ℕ = p + length (here.procs base) in
      let r = ap (λ n. length (inner_pieces (λ v. own_piece (inner v) a) xs after (c + n)).chans) e
      ∙ same_count xs after (c + length (here.laid b base)) (λ v l. laws (suc v) (omega arith)) in
      omega (
        arith,
        e,
        r,
        length-append (here.laid a base)
            (inner_pieces (λ v. own_piece (inner v) a) xs after (c + length (here.laid a base))).chans,
        length-append (here.laid b base)
            (inner_pieces (λ v. own_piece (inner v) b) xs after (c + length (here.laid b base))).chans,
      )

-- each of these channels has room for a token
HaveCap : List Chan → Type 0
HaveCap xs = (k : ℕ) → k < length xs → 0 < (get_or xs k no_chan).cap

caps_append : (xs ys : List Chan) → HaveCap xs → HaveCap ys → HaveCap (xs ++ ys)
unfolding HaveCap
caps_append [] ys h r k l = r k l
caps_append (x ∷ xs) ys h r zero l = h 0 (omega arith)
caps_append (x ∷ xs) ys h r (suc k) l = caps_append xs ys (λ j i. h (suc j) (omega arith)) r k (omega arith)

inner_caps : (inner : ℕ → Blueprint) (cap : ℕ) → 0 < cap → (xs : List Slot) (p c : ℕ) →
    ((v : ℕ) → v < length xs → IsLawfulShape (inner (get_or xs v no_slot).part)) →
    HaveCap (inner_pieces (λ v. own_piece (inner v) cap) xs p c).chans
unfolding inner_pieces HaveCap
inner_caps inner cap pos [] p c laws k l = absurd (omega arith)
inner_caps inner cap pos (x ∷ xs) p c laws k l =
    let base : Base = base_at x p c in
    let law : IsLawfulShape (inner x.part) = laws 0 (omega arith) in
    caps_append ((inner x.part).laid cap base) _ (λ j i. law.rooms cap base j pos i)
    (inner_caps inner cap pos xs _ _ (λ v i. laws (suc v) (omega arith))) k l

module _ (outer : Blueprint) (which : ℕ → ℕ) (inner : ℕ → Blueprint) (law : IsLawfulShape outer) (are : AreInner outer which inner) where
  pub laws_at : (base : Base) (v : ℕ) → v < length (outer.slots base) →
      IsLawfulShape (inner (get_or (outer.slots base) v no_slot).part) × ((inner (get_or (outer.slots base) v no_slot).part).inner ≡ 0)
  laws_at base v l =
      let i : v < outer.inner = omega (arith, l, law.count base) in
      subst (λ z. IsLawfulShape (inner z) × ((inner z).inner ≡ 0)) (sym (are.part base v i)) (are.lawful v i, are.closed v i)

  pub nested_procs : (a b : ℕ) (base : Base) → (nested_piece outer inner a base).procs ≡ (nested_piece outer inner b base).procs
  unfolding AreLawfulAt
  nested_procs a b base = ap (λ z. outer.procs base ++ z) (same_procs inner a b (outer.slots base) _ _ (λ v l. (laws_at base v l).0))

  pub nested_count : (a b : ℕ) (base : Base) →
      length (nested_piece outer inner a base).chans ≡ length (nested_piece outer inner b base).chans
  unfolding AreLawfulAt
  nested_count a b base =
      let p : ℕ = base.proc + length (outer.procs base) in
      let c : ℕ = base.chan + outer.chans base in
      omega (
        arith,
        law.laid a base,
        law.laid b base,
        same_count inner a b (outer.slots base) p c (λ v l. (laws_at base v l).0),
        length-append (outer.laid a base) (inner_pieces (λ v. own_piece (inner v) a) (outer.slots base) p c).chans,
        length-append (outer.laid b base) (inner_pieces (λ v. own_piece (inner v) b) (outer.slots base) p c).chans,
      )

  -- placed, it is a part of the net
  nested_sound : (net : Net) (units : Units) (roles : ℕ → Role) (base : Base) (parts : List Part) →
      (placed : IsPlaced net units roles (nested outer inner) base parts) →
      IsPartAt net units (closed_role units (nested outer inner)) base (nested_piece outer inner placed.cap base)
      (closed_part units (nested outer inner) base)
  nested_sound net units roles base parts placed =
      shape_sound net units outer law (λ v. IsLawfulShape (inner v) × ((inner v).inner ≡ 0))
      (λ v. closed_role units (inner v)) (λ v. own_piece (inner v) placed.cap) (λ v. closed_part units (inner v))
      placed.cap placed.pos
      (λ v b may good s o. closed_sound net units (inner v) may.0 may.1 placed.cap placed.pos b good s o)
      base (laws_at base) placed.good
      (subst (AreStanding net base.proc) (nested_procs 1 placed.cap base) placed.procs) placed.laid

  no_parts : (net : Net) (units : Units) (roles : ℕ → Role) (p c : ℕ) (parts : List Part) →
      AreChained net units roles p c [] parts → parts ≡ []
  unfolding AreChained
  no_parts net units roles p c [] h = refl
  no_parts net units roles p c (P ∷ Ps) h = absurd h

  nested_lies : (net : Net) (units : Units) (roles : ℕ → Role) (base : Base) (parts : List Part) →
      IsPlaced net units roles (nested outer inner) base parts →
      LiesAt (nested outer inner) units roles base parts ((nested outer inner).part units roles base parts)
  unfolding proc_end chan_end
  nested_lies net units roles base parts placed =
      let r = nested_sound net units roles base parts placed in
      let e = no_parts net units roles _ _ parts placed.inner in
      record {
        meaning = r.meaning;
        firings = r.firings;
        input = r.input;
        output = r.output;
        proc_from = r.proc_from;
        chan_from = r.chan_from;
        proc_to = r.proc_to ∙ ap (λ z. base.proc + length z) (nested_procs placed.cap 1 base)
            ∙ ap (proc_end (base.proc + length (nested_piece outer inner 1 base).procs)) (sym e);
        chan_to = r.chan_to ∙ ap (λ z. base.chan + z) (nested_count placed.cap 1 base)
            ∙ ap (chan_end (base.chan + length (nested_piece outer inner 1 base).chans)) (sym e);
      }

  pub nested_lawful : IsLawfulShape (nested outer inner)
  unfolding HaveCap
  nested_lawful = record {
    lawful = λ net units roles base parts placed. let r = nested_sound net units roles base parts placed in r.lawful;
    lies = nested_lies;
    count = λ base. refl;
    laid = λ cap base. nested_count cap 1 base;
    rooms = λ cap base k pos l.
        caps_append (outer.laid cap base) _ (λ j i. law.rooms cap base j pos i)
        (inner_caps inner cap pos (outer.slots base) _ _ (λ v i. (laws_at base v i).0)) k l;
    slots = λ net base good v l. absurd (omega arith);
  }
