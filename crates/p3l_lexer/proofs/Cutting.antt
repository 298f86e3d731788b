-- The piece at the front of a text.
use Rattle.std.proofs.Common.{◌≡◌, ℕ, suc, ◌+◌, ◌<◌, ◌≤◌, Bool, true, false, cond, ◌&&◌, List, [], ◌∷◌, ◌++◌, length, take, drop, get_or, Option, Some, None, refl, sym, ap, ◌∙◌, subst, arith, append-nil, length-append}
use Rattle.std.proofs.lemmas.List.{take-append-drop, take_all, drop_all}
use Rattle.std.specs.Prelude.{nat_eq, is_some}
use Rattle.std.specs.List.{list_all}
use Rattle.p3l_lexer.specs.declared.token.Piece.{Piece}
use Rattle.p3l_lexer.specs.declared.token.Piece.TheVariants.{Gap, Token}
use Rattle.p3l_ast.specs.declared.refusal.Fault.TheVariants.{BadToken}
use Rattle.p3l_lexer.specs.declared.mark.Mark.{Mark}
use Rattle.p3l_lexer.specs.declared.token.Lexeme.TheVariants.{Faulty}
use Rattle.p3l_lexer.specs.Mark.{punctuation_of}
use Rattle.p3l_lexer.specs.Position.{is_no_line_end}
use Rattle.p3l_lexer.specs.Piece.{is_word_byte, after_close, block_of, slash_of, piece_of}
use Rattle.p3l_lexer.specs.Token.{IsLongest, IsCut}
use Rattle.p3l_lexer.specs.Cut.{Ends, CutsPiece, begins_with_pair}
use Rattle.p3l_lexer.proofs.Pieces.{run_of, piece_of-run, piece_of-no_run, piece_of-slash, piece_of-other, slash_of-line, slash_of-block, slash_of-none, sign_or_byte-longer, sign_or_byte-two, byte_piece, pair_piece, run_ends, after_close-append}
use Rattle.p3l_lexer.proofs.Truths.{and_right}

pub head_is : (test : ℕ → Bool) (rest others more : List ℕ) (byte : ℕ) → Ends test rest → rest ≡ byte ∷ more ++ others → test byte ≡ false
head_is test [] others more byte e h = absurd cc
head_is test (b ∷ rest) others more byte e h = let q : b ≡ byte = cc in rw (← q) e

-- a run
run_cut : (first : ℕ) (front rest : List ℕ) → is_word_byte first ≡ true → list_all is_word_byte front ≡ true → Ends is_word_byte rest → IsCut (run_of first front) (first ∷ front) rest
run_cut first front rest h all e = record {
  is_piece = piece_of-run first front h all;
  longest = λ byte more others q. piece_of-no_run first (front ++ byte ∷ more) h (run_ends is_word_byte front more byte (head_is is_word_byte rest others more byte e q));
}

pub cuts_run : (text front rest : List ℕ) → 0 < length text → is_word_byte (get_or text 0 0) ≡ true → text ≡ front ++ rest → list_all is_word_byte front ≡ true → Ends is_word_byte rest → CutsPiece text front rest
cuts_run [] front rest some h w all e = absurd (omega arith)
cuts_run (first ∷ text) [] [] some h w all e = absurd cc
cuts_run (first ∷ text) [] (byte ∷ rest) some h w all e = absurd (let q : first ≡ byte = cc in let k = rw q at h in cc)
cuts_run (first ∷ text) (byte ∷ front) rest some h w all e =
    let q : first ≡ byte = cc in
    record { whole = w; piece = run_of byte front; cut = run_cut byte front rest (subst (λ b. is_word_byte b ≡ true) q h) (and_right (is_word_byte byte) _ all) e }

-- a comment to the line's end
line_cut : (front rest : List ℕ) → list_all is_no_line_end front ≡ true → Ends is_no_line_end rest → IsCut Gap (47 ∷ 47 ∷ front) rest
line_cut front rest all e = record {
  is_piece = piece_of-slash (47 ∷ front) ∙ slash_of-line front ∙ rw all refl;
  longest = λ byte more others q.
      let none = run_ends is_no_line_end front more byte (head_is is_no_line_end rest others more byte e q) in
      piece_of-slash (47 ∷ front ++ byte ∷ more) ∙ slash_of-line (front ++ byte ∷ more) ∙ rw none refl;
}

line_front : (text front rest : List ℕ) (a b : ℕ) → a ≡ 47 → b ≡ 47 → a ∷ b ∷ text ≡ front ++ rest → list_all is_no_line_end front ≡ true → Ends is_no_line_end rest → CutsPiece (a ∷ b ∷ text) front rest
line_front text [] [] a b p q w all e = absurd cc
line_front text [] (byte ∷ rest) a b p q w all e = absurd (let r : byte ≡ 47 = cc in let k = rw r at e in cc)
line_front text (x ∷ []) [] a b p q w all e = absurd cc
line_front text (x ∷ []) (byte ∷ rest) a b p q w all e = absurd (let r : byte ≡ 47 = cc in let k = rw r at e in cc)
line_front text (x ∷ y ∷ front) rest a b p q w all e =
    let r : x ≡ 47 = cc in
    let s : y ≡ 47 = cc in
    let tail : list_all is_no_line_end front ≡ true = and_right (is_no_line_end y) _ (and_right (is_no_line_end x) _ all) in
    record { whole = w; piece = Gap; cut = rw (r, s) (line_cut front rest tail e) }

pub cuts_line : (text front rest : List ℕ) → 1 < length text → get_or text 0 0 ≡ 47 → get_or text 1 0 ≡ 47 → text ≡ front ++ rest → list_all is_no_line_end front ≡ true → Ends is_no_line_end rest → CutsPiece text front rest
cuts_line [] front rest some p q w all e = absurd (omega arith)
cuts_line (a ∷ []) front rest some p q w all e = absurd (omega arith)
cuts_line (a ∷ b ∷ text) front rest some p q w all e = line_front text front rest a b p q w all e

-- a comment that is closed
none_after : (x : List ℕ) (byte : ℕ) (more : List ℕ) → block_of (Some ([] ++ byte ∷ more)) ≡ None
unfolding block_of
none_after x byte more = refl

closed_cut : (front rest : List ℕ) → after_close front ≡ Some [] → IsCut Gap (47 ∷ 42 ∷ front) rest
unfolding block_of
closed_cut front rest h = record {
  is_piece = piece_of-slash (42 ∷ front) ∙ slash_of-block front ∙ ap block_of h;
  longest = λ byte more others q.
      piece_of-slash (42 ∷ front ++ byte ∷ more) ∙ slash_of-block (front ++ byte ∷ more) ∙ ap block_of (after_close-append front [] (byte ∷ more) h);
}

-- the rest after the first `*/` is shorter than the body
close_shorter : (body rest : List ℕ) → after_close body ≡ Some rest → length rest < length body
unfolding after_close
close_shorter [] rest h = absurd cc
close_shorter (a ∷ []) rest h = absurd cc
close_shorter (a ∷ b ∷ body) rest h = go (nat_eq a 42 && nat_eq b 47) (close_shorter (b ∷ body) rest) h
  where
    go : (t : Bool) → (after_close (b ∷ body) ≡ Some rest → length rest < length (b ∷ body)) → cond t (Some body) (after_close (b ∷ body)) ≡ Some rest → length rest < length (a ∷ b ∷ body)
    go true later e = let q : length body ≡ length rest = ap length (let r : body ≡ rest = cc in r) in omega arith
    go false later e = let q = later e in omega arith

-- up to and with the first `*/` nothing follows
close_here : (a b : ℕ) (body front rest : List ℕ) → (nat_eq a 42 && nat_eq b 47) ≡ true → body ≡ rest → a ∷ b ∷ body ≡ front ++ rest → after_close front ≡ Some []
unfolding after_close
close_here a b body [] rest t q w = absurd (let e = ap length w in let f = ap length q in omega arith)
close_here a b body (x ∷ []) rest t q w = absurd (let e = ap length w in let f = ap length q in omega arith)
close_here a b body (x ∷ y ∷ []) rest t q w =
    let e : a ≡ x = cc in
    let f : b ≡ y = cc in
    let k : (nat_eq x 42 && nat_eq y 47) ≡ true = subst (λ z. (nat_eq z 42 && nat_eq y 47) ≡ true) e (subst (λ z. (nat_eq a 42 && nat_eq z 47) ≡ true) f t) in
    rw k refl
close_here a b body (x ∷ y ∷ z ∷ front) rest t q w = absurd (let e : length (a ∷ b ∷ body) ≡ 3 + (length front + length rest) = ap length w ∙ ap (λ n. suc (suc (suc n))) (length-append front rest) ∙ (omega arith) in let f = ap length q in omega arith)

-- the text before the rest ends with the first `*/`
abbrev Closes : List ℕ → List ℕ → Type 0
Closes body rest = (front : List ℕ) → after_close body ≡ Some rest → body ≡ front ++ rest → after_close front ≡ Some []

pub close_front : (body front rest : List ℕ) → after_close body ≡ Some rest → body ≡ front ++ rest → after_close front ≡ Some []
unfolding after_close
close_front [] front rest h w = absurd cc
close_front (a ∷ []) front rest h w = absurd cc
close_front (a ∷ b ∷ body) front rest h w = go (nat_eq a 42 && nat_eq b 47) refl h (λ f. close_front (b ∷ body) f rest)
  where
    later : (front : List ℕ) → Closes (b ∷ body) rest → (nat_eq a 42 && nat_eq b 47) ≡ false → after_close (b ∷ body) ≡ Some rest → a ∷ b ∷ body ≡ front ++ rest → after_close front ≡ Some []
    later [] before t e w = absurd (let s = close_shorter (b ∷ body) rest e in let l = ap length w in omega arith)
    later (x ∷ []) before t e w = absurd (let s = close_shorter (b ∷ body) rest e in let l = ap length w in omega arith)
    later (x ∷ y ∷ front) before t e w =
        let p : a ≡ x = cc in
        let q : b ≡ y = cc in
        let k : (nat_eq x 42 && nat_eq y 47) ≡ false = subst (λ z. (nat_eq z 42 && nat_eq y 47) ≡ false) p (subst (λ z. (nat_eq a 42 && nat_eq z 47) ≡ false) q t) in
        let r : b ∷ body ≡ (y ∷ front) ++ rest = cc in
        rw k (before (y ∷ front) e r)

    go : (t : Bool) → (nat_eq a 42 && nat_eq b 47) ≡ t → cond t (Some body) (after_close (b ∷ body)) ≡ Some rest → Closes (b ∷ body) rest → after_close front ≡ Some []
    go true t e before = close_here a b body front rest t (let q : body ≡ rest = cc in q) w
    go false t e before = later front before t e w

whole_at : (n : ℕ) (text front rest : List ℕ) → front ≡ take n text → rest ≡ drop n text → text ≡ front ++ rest
whole_at n text front rest p q = rw (p, q) (sym (take-append-drop n text))

closed_from : (a b n : ℕ) (body front rest : List ℕ) → a ≡ 47 → b ≡ 42 → after_close body ≡ Some (drop n body) → front ≡ take (suc (suc n)) (a ∷ b ∷ body) → rest ≡ drop (suc (suc n)) (a ∷ b ∷ body) → CutsPiece (a ∷ b ∷ body) front rest
closed_from a b n body front rest p q h f r = record {
  whole = whole_at (suc (suc n)) (a ∷ b ∷ body) front rest f r;
  piece = Gap;
  cut = rw (f, p, q) (closed_cut (take n body) rest (close_front body (take n body) (drop n body) h (sym (take-append-drop n body))));
}

pub cuts_closed : (text front rest : List ℕ) (n : ℕ) → 1 < length text → get_or text 0 0 ≡ 47 → get_or text 1 0 ≡ 42 → after_close (drop 2 text) ≡ Some (drop n (drop 2 text)) → front ≡ take (n + 2) text → rest ≡ drop (n + 2) text → CutsPiece text front rest
cuts_closed [] front rest n some p q h f r = absurd (omega arith)
cuts_closed (a ∷ []) front rest n some p q h f r = absurd (omega arith)
cuts_closed (a ∷ b ∷ body) front rest n some p q h f r =
    let e : n + 2 ≡ suc (suc n) = omega arith in
    closed_from a b n body front rest p q h (rw e at f) (rw e at r)

-- a comment that is not closed
open_from : (a b : ℕ) (body front rest : List ℕ) → a ≡ 47 → b ≡ 42 → after_close body ≡ None → front ≡ a ∷ b ∷ body → rest ≡ [] → CutsPiece (a ∷ b ∷ body) front rest
unfolding block_of
open_from a b body front rest p q h f r = record {
  whole = rw (f, r) (sym (append-nil (a ∷ b ∷ body)));
  piece = Token (Faulty BadToken);
  cut = rw f (record {
    is_piece = rw (p, q) (piece_of-slash (42 ∷ body) ∙ slash_of-block body ∙ ap block_of h);
    longest = λ byte more others w. absurd (let k : [] ≡ byte ∷ more ++ others = sym r ∙ w in cc);
  });
}

pub cuts_open : (text front rest : List ℕ) → 1 < length text → get_or text 0 0 ≡ 47 → get_or text 1 0 ≡ 42 → after_close (drop 2 text) ≡ None → front ≡ take (length text) text → rest ≡ drop (length text) text → CutsPiece text front rest
cuts_open [] front rest some p q h f r = absurd (omega arith)
cuts_open (a ∷ []) front rest some p q h f r = absurd (omega arith)
cuts_open (a ∷ b ∷ body) front rest some p q h f r =
    open_from a b body front rest p q h (f ∙ take_all (length (a ∷ b ∷ body)) (a ∷ b ∷ body) (omega arith)) (r ∙ drop_all (length (a ∷ b ∷ body)) (a ∷ b ∷ body) (omega arith))

-- two bytes that are a mark
pub pair_longest : (a b : ℕ) (rest : List ℕ) → is_word_byte a ≡ false → nat_eq a 47 ≡ false → IsLongest (a ∷ b ∷ []) rest
pair_longest a b rest w s byte more others q = piece_of-other a (b ∷ byte ∷ more) w s ∙ sign_or_byte-longer a b byte more

pub cuts_pair : (text front rest : List ℕ) → 1 < length text → is_word_byte (get_or text 0 0) ≡ false → nat_eq (get_or text 0 0) 47 ≡ false → begins_with_pair text ≡ true → front ≡ take 2 text → rest ≡ drop 2 text → CutsPiece text front rest
unfolding begins_with_pair
cuts_pair [] front rest some w s m f r = absurd (omega arith)
cuts_pair (a ∷ []) front rest some w s m f r = absurd (omega arith)
cuts_pair (a ∷ b ∷ text) front rest some w s m f r =
    let p = pair_piece (punctuation_of (a ∷ b ∷ [])) (a ∷ b ∷ []) m in
    record {
      whole = whole_at 2 (a ∷ b ∷ text) front rest f r;
      piece = p.0;
      cut = rw f (record { is_piece = piece_of-other a (b ∷ []) w s ∙ p.1; longest = pair_longest a b rest w s });
    }

-- a byte alone, that is no `/`
pub one_longest : (a : ℕ) (rest : List ℕ) → is_word_byte a ≡ false → nat_eq a 47 ≡ false → begins_with_pair (a ∷ rest) ≡ false → IsLongest (a ∷ []) rest
unfolding begins_with_pair
one_longest a [] w s m byte more others q = absurd cc
one_longest a (b ∷ rest) w s m byte [] others q =
    let e : b ≡ byte = cc in
    let none : punctuation_of (a ∷ byte ∷ []) ≡ None = no_mark (punctuation_of (a ∷ byte ∷ [])) (subst (λ x. is_some (punctuation_of (a ∷ x ∷ [])) ≡ false) e m) in
    piece_of-other a (byte ∷ []) w s ∙ sign_or_byte-two a byte none
  where
    no_mark : (m : Option Mark) → is_some m ≡ false → m ≡ None
    no_mark None h = refl
    no_mark (Some x) h = absurd cc
one_longest a (b ∷ rest) w s m byte (c ∷ more) others q = piece_of-other a (byte ∷ c ∷ more) w s ∙ sign_or_byte-longer a byte c more

pub cuts_one : (text front rest : List ℕ) → 0 < length text → is_word_byte (get_or text 0 0) ≡ false → nat_eq (get_or text 0 0) 47 ≡ false → begins_with_pair text ≡ false → front ≡ take 1 text → rest ≡ drop 1 text → CutsPiece text front rest
cuts_one [] front rest some w s m f r = absurd (omega arith)
cuts_one (a ∷ text) front rest some w s m f r =
    let p = byte_piece (punctuation_of (a ∷ [])) a in
    record {
      whole = whole_at 1 (a ∷ text) front rest f r;
      piece = p.0;
      cut = rw (f, r) (record { is_piece = piece_of-other a [] w s ∙ p.1; longest = one_longest a text w s m });
    }

-- a `/` that begins no comment
pub slash_longest : (rest : List ℕ) → Ends (λ b. nat_eq b 47) rest → Ends (λ b. nat_eq b 42) rest → IsLongest (47 ∷ []) rest
slash_longest [] s t byte more others q = absurd cc
slash_longest (b ∷ rest) s t byte more others q =
    let e : b ≡ byte = cc in
    piece_of-slash (byte ∷ more) ∙ slash_of-none byte more (subst (λ x. nat_eq x 47 ≡ false) e s) (subst (λ x. nat_eq x 42 ≡ false) e t)

slash_piece : (piece : Piece) × (piece_of (47 ∷ []) ≡ Some piece)
unfolding slash_of
slash_piece = let p = byte_piece (punctuation_of (47 ∷ [])) 47 in (p.0, piece_of-slash [] ∙ p.1)

slash_from : (a : ℕ) (text front rest : List ℕ) → a ≡ 47 → Ends (λ b. nat_eq b 47) text → Ends (λ b. nat_eq b 42) text → front ≡ a ∷ [] → rest ≡ text → CutsPiece (a ∷ text) front rest
slash_from a text front rest h s t f r = record {
  whole = rw (f, r) refl;
  piece = slash_piece.0;
  cut = rw (f, h, r) (record { is_piece = slash_piece.1; longest = slash_longest text s t });
}

pub cuts_slash : (text front rest : List ℕ) → 0 < length text → get_or text 0 0 ≡ 47 → Ends (λ b. nat_eq b 47) (drop 1 text) → Ends (λ b. nat_eq b 42) (drop 1 text) → front ≡ take 1 text → rest ≡ drop 1 text → CutsPiece text front rest
cuts_slash [] front rest some h s t f r = absurd (omega arith)
cuts_slash (a ∷ text) front rest some h s t f r = slash_from a text front rest h s t f r

-- the byte after the first is another, or there is none
pub ends_short : (test : ℕ → Bool) (text : List ℕ) → length text ≤ 1 → Ends test (drop 1 text)
ends_short test [] h = tt
ends_short test (a ∷ []) h = tt
ends_short test (a ∷ b ∷ text) h = absurd (omega arith)

pub ends_other : (test : ℕ → Bool) (text : List ℕ) → 1 < length text → test (get_or text 1 0) ≡ false → Ends test (drop 1 text)
ends_other test [] some h = absurd (omega arith)
ends_other test (a ∷ []) some h = absurd (omega arith)
ends_other test (a ∷ b ∷ text) some h = h
