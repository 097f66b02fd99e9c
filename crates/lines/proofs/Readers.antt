-- Readers that answer exactly with what is written at their place, and how they are put together.
use Rattle.std.proofs.Common.{◌≡◌, ℕ, ◌+◌, ◌≤◌, Bool, true, false, cond, eqb, leb, List, [], ◌++◌, length, drop, Ok, Err, Result, sym, refl, ap, ◌∙◌, subst, ap₂, append_assoc, append-nil, arith, length-append, length-drop}
use Rattle.std.proofs.lemmas.Bool.{le-leb, eqb-true, eq-eqb}
use Rattle.std.proofs.lemmas.List.{drop-drop, drop_at, drop_all}
use Rattle.lines.specs.declared.faults.Fault.{Fault}
use Rattle.lines.specs.Faults.{bind}

-- from one place to the next
pub record Step (bs : List ℕ) (p : ℕ) (w : List ℕ) (q : ℕ) : Type 0 where
  pub far : q ≡ p + length w
  pub bytes : drop p bs ≡ w ++ drop q bs

pub step_then : (bs : List ℕ) (p : ℕ) (w : List ℕ) (q : ℕ) (v : List ℕ) (r : ℕ) → Step bs p w q → Step bs q v r → Step bs p (w ++ v) r
step_then bs p w q v r a b = record {
  far = omega (arith, length-append w v);
  bytes = a.bytes ∙ ap (λ l. w ++ l) b.bytes ∙ sym (append_assoc w v (drop r bs));
}

-- what stands behind what is written
pub drop_behind : (bs : List ℕ) (p : ℕ) (w rest : List ℕ) → drop p bs ≡ w ++ rest → drop (p + length w) bs ≡ rest
drop_behind bs p w rest e = sym (drop-drop (length w) p bs) ∙ ap (drop (length w)) e ∙ drop_at w rest (length w) refl

-- by cases on a `bind` that succeeds
pub bound : {A B C : Type 0} (r : Result A Fault) (f : A → Result B Fault) (y : B) → bind r f ≡ Ok y → ((x : A) → r ≡ Ok x → f x ≡ Ok y → C) → C
bound (Ok x) f y e k = k x refl e
bound (Err d) f y e k = absurd (grind arith)

pub bind_to : {A B : Type 0} (r : Result A Fault) (f : A → Result B Fault) (x : A) → r ≡ Ok x → bind r f ≡ f x
bind_to r f x e = ap (λ z. bind z f) e

abbrev unok : {A : Type 0} → A → Result A Fault → A
unok d (Ok x) = x
unok d (Err e) = d

pub ok_same : {A : Type 0} (x y : A) → ◌≡◌ {A = Result A Fault} (Ok x) (Ok y) → x ≡ y
ok_same x y e = ap (unok x) e

pub cond_ok : {B : Type 0} (t : Bool) (x y : B) (d : Fault) → cond t (Ok x) (Err d) ≡ Ok y → (t ≡ true) × (x ≡ y)
cond_ok true x y d e = (refl, ok_same x y e)
cond_ok false x y d e = absurd (grind arith)

-- the answer r at place p: a value that stands there as W writes it and is valid, and the place behind it
pub record Reads {A : Type 0} (bs : List ℕ) (p : ℕ) (r : Result (A × ℕ) Fault) (W : A → List ℕ) (V : A → Type 0) : Type 0 where
  pub to : (a : A) (q : ℕ) → r ≡ Ok (a, q) → V a × Step bs p (W a) q
  pub from : (a : A) (rest : List ℕ) → V a → drop p bs ≡ W a ++ rest → r ≡ Ok (a, p + length (W a))

-- the same with the end of the bytes behind it
pub record Ends {B : Type 0} (bs : List ℕ) (p : ℕ) (r : Result B Fault) (W : B → List ℕ) (V : B → Type 0) : Type 0 where
  pub to : (b : B) → r ≡ Ok b → V b × (drop p bs ≡ W b)
  pub from : (b : B) → p ≤ length bs → V b → drop p bs ≡ W b → r ≡ Ok b

-- valid in other words
pub alike : {A : Type 0} {bs : List ℕ} {p : ℕ} {r : Result (A × ℕ) Fault} {W : A → List ℕ} {V : A → Type 0} (U : A → Type 0) → ((a : A) → V a → U a) → ((a : A) → U a → V a) → Reads bs p r W V → Reads bs p r W U
alike U there back c = record {
  to = λ a q e. let h = c.to a q e in (there a h.0, h.1);
  from = λ a rest u e. c.from a rest (back a u) e;
}

module _ {A B : Type 0} {bs : List ℕ} {p : ℕ} {r : Result (A × ℕ) Fault} {W : A → List ℕ} {V : A → Type 0} (c : Reads bs p r W V) where
  -- made into another value, of which it is the part that is written, or refused
  pub mapped : (f : A × ℕ → Result (B × ℕ) Fault) (part : B → A) (T : B → Type 0) → ((a : A) (q : ℕ) (b : B) (n : ℕ) → V a → f (a, q) ≡ Ok (b, n) → (a ≡ part b) × ((q ≡ n) × T b)) → ((b : B) (q : ℕ) → V (part b) → T b → f (part b, q) ≡ Ok (b, q)) → Reads bs p (bind r f) (λ b. W (part b)) (λ b. V (part b) × T b)
  mapped f part T there back = record {
    to = λ b n e.
        bound r f (b, n) e (λ x e1 f1.
        let h = c.to x.0 x.1 e1 in
        let m = there x.0 x.1 b n h.0 f1 in
        ((subst V m.0 h.0, m.1.1), subst (λ k. Step bs p (W (part b)) k) m.1.0 (subst (λ a. Step bs p (W a) x.1) m.0 h.1)));
    from = λ b rest v e.
        bind_to r f (part b, p + length (W (part b))) (c.from (part b) rest v.0 e) ∙ back b (p + length (W (part b))) v.0 v.1;
  }

  -- with more behind it, of which a whole is made
  pub followed : (k : A × ℕ → Result (B × ℕ) Fault) (part : B → A) (X : B → List ℕ) (U : A → B → Type 0) → ((a : A) (b : B) → V a → U a b → part b ≡ a) → ((a : A) (q : ℕ) → V a → Reads bs q (k (a, q)) X (U a)) → Reads bs p (bind r k) (λ b. W (part b) ++ X b) (λ b. V (part b) × U (part b) b)
  followed k part X U same next = record {
    to = λ b n e.
        bound r k (b, n) e (λ x e1 f1.
        let h = c.to x.0 x.1 e1 in
        let m = (next x.0 x.1 h.0).to b n f1 in
        let is = sym (same x.0 b h.0 m.0) in (
          (subst V is h.0, subst (λ a. U a b) is m.0),
          step_then bs p (W (part b)) x.1 (X b) n (subst (λ a. Step bs p (W a) x.1) is h.1) m.1,
        ));
    from = λ b rest v e.
        let a = part b in
        let q = p + length (W a) in
        let f = e ∙ append_assoc (W a) (X b) rest in
        bind_to r k (a, q) (c.from a (X b ++ rest) v.0 f)
        ∙ (next a q v.0).from b rest v.1 (drop_behind bs p (W a) (X b ++ rest) f)
        ∙ ap (λ n. Ok (b, n)) (omega (arith, length-append (W a) (X b)));
  }

  -- with the end of the bytes behind it
  pub ended : (e : A × ℕ → Fault) (make : A → B) (part : B → A) → ((a : A) → part (make a) ≡ a) → Ends bs p (bind r (λ x. cond (eqb x.1 (length bs)) (Ok (make x.0)) (Err (e x)))) (λ b. W (part b)) (λ b. V (part b) × (make (part b) ≡ b))
  ended e make part same = record {
    to = λ b is.
        bound r (λ x. cond (eqb x.1 (length bs)) (Ok (make x.0)) (Err (e x))) b is (λ x e1 f1.
        let h = c.to x.0 x.1 e1 in
        let z = cond_ok (eqb x.1 (length bs)) (make x.0) b (e x) f1 in
        let a : x.0 ≡ part b = sym (same x.0) ∙ ap part z.1 in
        let end = drop_all x.1 bs (omega (arith, eqb-true x.1 (length bs) z.0)) in (
          (subst V a h.0, ap make (sym a) ∙ z.1),
          h.1.bytes ∙ ap (λ l. W x.0 ++ l) end ∙ append-nil (W x.0) ∙ ap W a,
        ));
    from = λ b inside v is.
        let q = p + length (W (part b)) in
        let end : q ≡ length bs = omega (arith, length-drop p bs, ap length is) in
        bind_to r (λ x. cond (eqb x.1 (length bs)) (Ok (make x.0)) (Err (e x))) (part b, q) (c.from (part b) [] v.0 (is ∙ sym (append-nil (W (part b)))))
        ∙ ap (λ t. cond t (Ok (make (part b))) (Err (e (part b, q)))) (eq-eqb q (length bs) end)
        ∙ ap Ok v.1;
  }

  pub followed_to_end : (k : A × ℕ → Result B Fault) (part : B → A) (X : B → List ℕ) (U : A → B → Type 0) → ((a : A) (b : B) → V a → U a b → part b ≡ a) → ((a : A) (q : ℕ) → V a → Ends bs q (k (a, q)) X (U a)) → Ends bs p (bind r k) (λ b. W (part b) ++ X b) (λ b. V (part b) × U (part b) b)
  followed_to_end k part X U same next = record {
    to = λ b e.
        bound r k b e (λ x e1 f1.
        let h = c.to x.0 x.1 e1 in
        let m = (next x.0 x.1 h.0).to b f1 in
        let is = sym (same x.0 b h.0 m.0) in (
          (subst V is h.0, subst (λ a. U a b) is m.0),
          h.1.bytes ∙ ap₂ (λ a l. W a ++ l) is m.1,
        ));
    from = λ b inside v e.
        let a = part b in
        let q = p + length (W a) in
        let on : q ≤ length bs = omega (arith, length-drop p bs, ap length e, length-append (W a) (X b)) in
        bind_to r k (a, q) (c.from a (X b) v.0 e) ∙ (next a q v.0).from b on v.1 (drop_behind bs p (W a) (X b) e);
  }

-- a whole sheet of at most so many bytes
module _ {B : Type 0} {bs : List ℕ} {r : Result B Fault} {W : B → List ℕ} {V : B → Type 0} (c : Ends bs 0 r W V) (most : ℕ) (d : Fault) where
  pub sheet_to : (b : B) → cond (leb (length bs) most) r (Err d) ≡ Ok b → V b × (bs ≡ W b)
  sheet_to b e = by (leb (length bs) most) e
    where
      by : (t : Bool) → cond t r (Err d) ≡ Ok b → V b × (bs ≡ W b)
      by true e = c.to b e
      by false e = absurd (grind arith)

  pub sheet_from : (b : B) → length bs ≤ most → V b → bs ≡ W b → cond (leb (length bs) most) r (Err d) ≡ Ok b
  sheet_from b l v e = ap (λ t. cond t r (Err d)) (le-leb (length bs) most l) ∙ c.from b (omega arith) v e
