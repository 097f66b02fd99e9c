-- A log, call by call, and what holds at each of its lines.
use Rattle.std.proofs.Common.{◌≡◌, ℕ, ◌+◌, ◌<◌, Bool, true, cond, ◌≢◌, List, [], length, get_or, take, set, Some, None, Ok, Err, Option, Result, sym, refl, ap, ◌∙◌, ap₂, ⊎_elim, arith, get_or-set_other, get_or-set_same}
use mathlib.Core.Path.{fun_ext}
use Rattle.std.proofs.lemmas.List.{take_more, get_or-map, length-map, map-set, set-get_or}
use Rattle.std.proofs.lemmas.Bool.{cases_eq}
use Rattle.lines.specs.declared.faults.Fault.{Fault}
use Rattle.matching.specs.Groups.{Group}
use Rattle.matching.specs.Log.{State, Call, post, opened, line}
use Rattle.matching.specs.Market.{Board, board_of, rank}
use Rattle.matching.specs.Promise.{Promise}
use Rattle.matching.proofs.Lines.{every_line_keeps_the_promise_lem}
use Rattle.matching.proofs.Wished.{line_push}
use Rattle.market.specs.Described.{Policies}
use Rattle.market.specs.Tables.{Person, stranger, pick_of, licensed_for, tables_of, wishes_of, market_of}
use Rattle.market.proofs.Lawful.{sheets_describe_a_lawful_market_lem}
use Rattle.sheets.specs.Model.{SheetsModel}
use Rattle.sheets.specs.Ranges.{in_range, wish_ok}
use Rattle.sheets.specs.Read.{sheets_of}
use Rattle.sheets.proofs.Canonical.{canonical}
use Rattle.book.specs.Model.{Model, anyone, board_in, opening}
use Rattle.round.specs.declared.log.Answer.{Answer}
use Rattle.round.specs.declared.log.Entry.{Entry}
use Rattle.round.specs.Calls.{left}
use Rattle.round.specs.Held.{PlaceModel, on_place}
use Rattle.round.specs.Log.{call_of, answer_to, answer_call, open_call}
use Rattle.round.specs.Promise.{WrittenBack, calls_of, answers_of, market, line_after, round_after, Carried, Denied}
use Rattle.round.specs.Running.{ran, ran_place, AnsweredTo}
use Rattle.round.proofs.Peoples.{people_same}

-- ---- call by call

module _ (family : ℕ → Group → Bool) (m : Model) (cs : List Call) where
  pub ran_none : ran family m [] ≡ m
  unfolding line
  ran_none = refl

  pub ran_more : (i : ℕ) → i < length cs → left family (ran family m (take i cs)) (get_or cs i post) ≡ ran family m (take (i + 1) cs)
  ran_more i h =
      ap (λ (s : State). (m.0, s)) (sym (ap (line (board_in family m.0) m.1) (take_more cs i post h) ∙ line_push (board_in family m.0) m.1 (take i cs) (get_or cs i post)))

module _ {S L : Type 0} (family : L → ℕ → Group → Bool) (p q r : PlaceModel S L) (cs : List Call) (i : ℕ) (c : Call) (a : Answer) (h : i < length cs) (is : get_or cs i post ≡ c)
    (at : q ≡ ran_place family p (take i cs)) (did : ◌≡◌ {A = Answer × PlaceModel S L} (a, r) (on_place family (λ f. answer_call f c) q)) where
  done : ◌≡◌ {A = Answer × PlaceModel S L} (a, r) (on_place family (λ f. answer_call f (get_or cs i post)) (ran_place family p (take i cs)))
  done = did ∙ ap₂ (λ (x : PlaceModel S L) (k : Call). on_place family (λ f. answer_call f k) x) at (sym is)

  pub place_more : r ≡ ran_place family p (take (i + 1) cs)
  place_more =
      ap (λ (z : Answer × PlaceModel S L). z.1) done
      ∙ ap (λ (x : Model). record { standing = p.standing; limit = p.limit; round = x }) (ran_more (family p.limit) p.round cs i h)

  pub answer_more : a ≡ answer_to (family p.limit) (get_or cs i post) (ran (family p.limit) p.round (take i cs))
  answer_more = ap (λ (z : Answer × PlaceModel S L). z.0) done

-- ---- the entries

module _ (es : List Entry) (i : ℕ) (d x : Entry) (h : i < length es) where
  pub call_read : get_or (calls_of es) i post ≡ call_of (get_or es i d).call
  call_read = get_or-map (λ (e : Entry). call_of e.call) es i d post h

  pub calls_stay : call_of x.call ≡ call_of (get_or es i d).call → calls_of (set es i x) ≡ calls_of es
  calls_stay e =
      map-set (λ (y : Entry). call_of y.call) es i x ∙ ap (set (calls_of es) i) (e ∙ sym call_read) ∙ set-get_or (calls_of es) i post

  pub answers_more : (family : ℕ → Group → Bool) (m : Model) (cs : List Call) → AnsweredTo family m cs i (answers_of es) → x.answer ≡ Some (answer_to family (get_or cs i post) (ran family m (take i cs)))
      → AnsweredTo family m cs (i + 1) (answers_of (set es i x))
  answers_more family m cs s e k l =
      ap (λ (xs : List (Option Answer)). get_or xs k None) (map-set (λ (y : Entry). y.answer) es i x)
      ∙ ⊎_elim
      (λ (q : k ≡ i). ap (λ j. get_or (set (answers_of es) i x.answer) j None) q ∙ get_or-set_same (answers_of es) i x.answer None (omega (arith, length-map es (λ (y : Entry). y.answer)))
      ∙ e ∙ ap (λ j. Some (answer_to family (get_or cs j post) (ran family m (take j cs)))) (sym q))
      (λ (q : k ≢ i). get_or-set_other (answers_of es) i k x.answer None q ∙ s k (omega arith))
      (cases_eq k i)

-- ---- the board of an opened round is that of the market

module _ (ahead : ℕ → ℕ → ℕ → Bool) (family : ℕ → Group → Bool) (m : SheetsModel) where
  rank_any : (l t : ℕ) → rank (market_of ahead anyone (tables_of m)) l t ≡ rank (market_of ahead family (tables_of m)) l t
  unfolding rank
  rank_any l t = refl

  abbrev board_by : List Person → (ℕ → ℕ → ℕ) → Board
  board_by ps ranks = record {
    teachers = length ps;
    lanes = length m.posts.lanes;
    rank_at = ranks;
    fits = λ l g. family (l + 1) g;
    pick = λ t w. pick_of m.posts (get_or ps t stranger) w;
    may_wish = λ t w. wish_ok m.posts.schools w;
  }

  pub board_is : board_in family (opening ahead m).0 ≡ board_of (market_of ahead family (tables_of m))
  board_is = ap₂ board_by (people_same m.teachers) (fun_ext (λ l. fun_ext (λ t. ap (λ r. cond (licensed_for (tables_of m) t l) r 0) (rank_any l t))))

  pub round_is : (cs : List Call) → ran family (opening ahead m) cs ≡ round_after ahead family m cs
  round_is cs = ap (λ (b : Board). ((opening ahead m).0, line b (opened (wishes_of m)) cs)) board_is

  pub line_keeps : Policies ahead family → in_range m ≡ true → (cs : List Call) → Promise (market ahead family m) (wishes_of m) cs (line_after ahead family m cs)
  line_keeps P r cs =
      let W = sheets_describe_a_lawful_market_lem ahead family P m r in
      every_line_keeps_the_promise_lem (market ahead family m) W.laws W.own_laws W.picked W.own_picked (wishes_of m) cs

-- ---- the log

module _ {S L : Type 0} (ahead : S → ℕ → ℕ → ℕ → Bool) (family : L → ℕ → Group → Bool) (posts staff : List ℕ) (p q r : PlaceModel S L) (es fs : List Entry) where
  -- the sheets opened
  pub opened_log : (P : Policies (ahead p.standing) (family p.limit)) (u : Unit {0}) → ◌≡◌ {A = Result (Unit {0}) Fault × PlaceModel S L} (Ok u, q) (open_call ahead (sheets_of posts staff) p)
      → r ≡ ran_place family q (calls_of es) → calls_of fs ≡ calls_of es → AnsweredTo (family q.limit) q.round (calls_of es) (length (calls_of es)) (answers_of fs)
      → Carried ahead family posts staff p r es fs
  opened_log P u e f calls answers = by (sheets_of posts staff) refl e
    where
      by : (s : Result SheetsModel Fault) → sheets_of posts staff ≡ s → ◌≡◌ {A = Result (Unit {0}) Fault × PlaceModel S L} (Ok u, q) (open_call ahead s p) → Carried ahead family posts staff p r es fs
      by (Err x) k o = absurd (let g = ap (λ z. z.0) o in grind arith)
      by (Ok m) k o =
          let is : q ≡ record { standing = p.standing; limit = p.limit; round = opening (ahead p.standing) m } = ap (λ (z : Result (Unit {0}) Fault × PlaceModel S L). z.1) o in
          let d = canonical.read_is_described posts staff m k in
          record {
            standing = ap (λ (x : PlaceModel S L). x.standing) f ∙ ap (λ (x : PlaceModel S L). x.standing) is;
            limit = ap (λ (x : PlaceModel S L). x.limit) f ∙ ap (λ (x : PlaceModel S L). x.limit) is;
            calls = calls;
            log = record {
              model = m;
              described = d;
              lines = λ j _. line_keeps (ahead p.standing) (family p.limit) m P d.ranges (take j (calls_of es));
              last = ap (λ (x : PlaceModel S L). x.round) f ∙ ap (λ (x : PlaceModel S L). ran (family x.limit) x.round (calls_of es)) is ∙ round_is (ahead p.standing) (family p.limit) m (calls_of es);
              answered = λ j l. answers j l
                  ∙ ap (λ (x : PlaceModel S L). Some (answer_to (family x.limit) (get_or (calls_of es) j post) (ran (family x.limit) x.round (take j (calls_of es))))) is
                  ∙ ap (λ (y : Model). Some (answer_to (family p.limit) (get_or (calls_of es) j post) y)) (round_is (ahead p.standing) (family p.limit) m (take j (calls_of es)));
            };
          }

  -- the round at the end is written back, where a round with the fixed part of an opening is
  pub written_log : (u : Unit {0}) → ◌≡◌ {A = Result (Unit {0}) Fault × PlaceModel S L} (Ok u, q) (open_call ahead (sheets_of posts staff) p)
      → r ≡ ran_place family q (calls_of es)
      → ((m : SheetsModel) → in_range m ≡ true → r.round.0 ≡ (opening (ahead p.standing) m).0 → WrittenBack (ahead p.standing) r.round)
      → WrittenBack (ahead p.standing) r.round
  written_log u e f back = by (sheets_of posts staff) refl e
    where
      by : (s : Result SheetsModel Fault) → sheets_of posts staff ≡ s → ◌≡◌ {A = Result (Unit {0}) Fault × PlaceModel S L} (Ok u, q) (open_call ahead s p) → WrittenBack (ahead p.standing) r.round
      by (Err x) k o = absurd (let g = ap (λ z. z.0) o in grind arith)
      by (Ok m) k o =
          let is : q ≡ record { standing = p.standing; limit = p.limit; round = opening (ahead p.standing) m } = ap (λ (z : Result (Unit {0}) Fault × PlaceModel S L). z.1) o in
          let at = ap (λ (x : PlaceModel S L). x.round) f ∙ ap (λ (x : PlaceModel S L). ran (family x.limit) x.round (calls_of es)) is ∙ round_is (ahead p.standing) (family p.limit) m (calls_of es) in
          back m (canonical.read_is_described posts staff m k).ranges (ap (λ (x : Model). x.0) at)

  -- the sheets have a fault
  pub denied_log : (x f : Fault) → ◌≡◌ {A = Result (Unit {0}) Fault × PlaceModel S L} (Err f, q) (open_call ahead (sheets_of posts staff) p) → x ≡ f → fs ≡ es → Denied ahead family posts staff p q es fs x
  denied_log x f e same kept = by (sheets_of posts staff) refl e
    where
      by : (s : Result SheetsModel Fault) → sheets_of posts staff ≡ s → ◌≡◌ {A = Result (Unit {0}) Fault × PlaceModel S L} (Err f, q) (open_call ahead s p) → Denied ahead family posts staff p q es fs x
      by (Ok m) k o = absurd (let g = ap (λ z. z.0) o in grind arith)
      by (Err y) k o =
          let both : ◌≡◌ {A = Result (Unit {0}) Fault} (Err f) (Err y) = ap (λ (z : Result (Unit {0}) Fault × PlaceModel S L). z.0) o in
          let is : f ≡ y = cc in
          record {
            faulty = k ∙ ap Err (sym (same ∙ is));
            undescribed = λ m d. let g : Err y ≡ Ok m = sym k ∙ canonical.described_is_read posts staff m d in absurd (grind arith);
            place = ap (λ (z : Result (Unit {0}) Fault × PlaceModel S L). z.1) o;
            entries = kept;
          }
