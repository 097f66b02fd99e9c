use Rattle.std.proofs.Common.{◌≡◌, ◌<◌, List, [], length, get_or, Some, None, sym, refl, ap, ◌∙◌, arith}
use Rattle.std.proofs.lemmas.List.{length-map}
use Rattle.matching.specs.Log.{Call, post}
use Rattle.book.specs.Model.{Model}
use Rattle.round.specs.declared.log.Command.TheVariants.{Wish}
use Rattle.round.specs.declared.log.Entry.{Entry}
use Rattle.round.specs.Held.{place_of}
use Rattle.round.specs.Log.{call_of}
use Rattle.round.specs.Promise.{calls_of}
use Rattle.round.proofs.Logging.{ran_none, place_more, answer_more, call_read, calls_stay, answers_more}
use Rattle.round.proofs.place.Place.carry_out_all.Goals as goal

-- what a read past the entries would give
abbrev past : Entry
past = record { call = Wish 0 (record { ref_ptr = (0, 0); now = [] }); answer = None }

pub loop-entry-init : goal.loop-entry-init
loop-entry-init g c =
    let p = place_of c.args.self.now in
    (ap (λ (m : Model). record { standing = p.standing; limit = p.limit; round = m }) (sym (ran_none (g.L.Limit.family p.limit) p.round [])), refl, λ k h. absurd (omega arith))

pub loop-entry-preserved : goal.loop-entry-preserved
loop-entry-preserved g c =
    let p = place_of c.args.self.now in
    let q = place_of c.loop-entry.self in
    let r = place_of c.carry_out.new.self in
    let es = c.loop-entry.entries in
    let cs = calls_of c.args.entries.now in
    let i = c.loop-entry.entry-index in
    let x : Entry = record { call = (get_or es i past).call; answer = Some c.carry_out.result } in
    let h : i < length es = omega arith in
    let k : i < length cs = omega (arith, ap length c.loop-entry.invariant.1, length-map es (λ (e : Entry). call_of e.call)) in
    let is : get_or cs i post ≡ call_of (get_or es i past).call = ap (λ (ys : List Call). get_or ys i post) (sym c.loop-entry.invariant.1) ∙ call_read es i past x h in (
      place_more g.L.Limit.family p q r cs i (call_of (get_or es i past).call) c.carry_out.result k is c.loop-entry.invariant.0 c.carry_out.ensures,
      calls_stay es i past x h refl ∙ c.loop-entry.invariant.1,
      answers_more es i past x h (g.L.Limit.family p.limit) p.round cs c.loop-entry.invariant.2 (ap (λ a. Some a) (answer_more g.L.Limit.family p q r cs i (call_of (get_or es i past).call) c.carry_out.result k is c.loop-entry.invariant.0 c.carry_out.ensures)),
    )
