-- `lloyd_repair::repair_next` meets its contract: the cells passed over are not empty. Assumes nothing.
use Rattle.std.proofs.Common.{◌≡◌, ℕ, ◌+◌, ◌<◌, ◌∙◌, List, get_or, sym, ap, arith, Option, None, Some, Result, Ok, Err}
use Rattle.std.specs.Option.{ok_or}
use Rattle.std.specs.Result.{IsErrAnd, result_ok}
use lib.Ieee.{Float, nan}
use lib.Seq.{get_or-take, length-take-le}
use Rattle.error.specs.Numbers.{refusal}
use Rattle.error.specs.declared.Refusal.{Refusal}
use Rattle.lloyd_cells.specs.declared.Places.{Places}
use Rattle.lloyd_cells.specs.Repair.{Cells, Terms, Repaired, repair_to}
use Rattle.lloyd_repair.specs.declared.Numbers.{Numbers}
use Rattle.lloyd_repair.specs.declared.Repair.{Repair}
use Rattle.lloyd_repair.specs.Running.{terms_of, Turned}
use Rattle.lloyd_repair.proofs.RepairLaw.{front_donor, passed, none_gives}
use Rattle.lloyd_repair.proofs.repair_next.Goals as goal

pub returns-in_default-clause-turned : goal.returns-in_default-clause-turned
returns-in_default-clause-turned c = λ far start r len run.
    let a = c.args in
    let h = rw (c.in_default.is, length-take-le a.t.cells a.ints.now run.counts) at c.next_empty.ensures in
    let all = passed run a.t.cells run.reached (omega arith) h in
    (all.came, all)

-- what is handed on is the refusal that the repairs come to
refused : (p : Places) (m : Numbers) (t : Terms) (samples : List Float) (far : ℕ → ℕ → Float) (start : Cells) (r : Repaired) (work : List Float) (ints : List ℕ)
    → (y : Result (Option Repair) Refusal) (x : Refusal) → IsErrAnd y (λ e. e ≡ x) → repair_to t far start t.cells ≡ refusal x → Turned p m t samples far start r work ints y
refused p m t samples far start r work ints (Ok o) x h e = absurd h
refused p m t samples far start r work ints (Err z) x h e = e ∙ sym (ap refusal h)

-- none was found: the refusal names the empty cell
no_donor : (found : Option ℕ) (x y : Refusal) → found ≡ None → ok_or found x ≡ Err y → x ≡ y
no_donor None x y e h = cc
no_donor (Some c) x y e h = cc

pub returns-in_err-donor-clause-turned : goal.returns-in_err-donor-clause-turned
returns-in_err-donor-clause-turned c = λ far start r len run.
    let a = c.args in
    let h = c.in-Some.ensures in
    let size = length-take-le a.t.cells a.ints.now run.counts in
    let none = c.ok_or.ensures.ok_part ∙ ap result_ok c.in_err-donor.was in
    let names = no_donor c.choose_donor-found.result _ _ none (sym c.ok_or.ensures.value ∙ c.in_err-donor.was) in
    refused a.p a.m (terms_of a.t) a.samples.now far start r a.work.now a.ints.now _ _ c.from_residual.ensures.1
    (none_gives run c.in-Some.e h.0 (omega arith) h.2 (omega arith) h.3 (sym c.choose_donor-found.ensures ∙ none) ∙ ap refusal names)

pub repair_from-requires : goal.repair_from-requires
repair_from-requires c =
    let a = c.args in
    let h = c.in-Some.ensures in
    let s = c.requires in
    let size = length-take-le a.t.cells a.ints.now s.running.counts in
    let below : c.in-Some.e < a.t.cells = omega arith in
    record {
      ready = record { far = s.far; start = s.start; r = s.r; events = s.events; running = passed s.running c.in-Some.e h.0 (omega arith) h.2 };
      chosen = record {
        below = below;
        empty = sym (get_or-take a.t.cells a.ints.now c.in-Some.e 0 below) ∙ h.3;
        shows = sym (front_donor a.t.cells a.ints.now (λ i. get_or a.work.now (a.p.distortions + i) nan) s.running.counts) ∙ sym c.choose_donor-found.ensures ∙ c.ok_or.ensures.ok_part ∙ ap result_ok c.in_ok-donor.was;
      };
    }

pub returns-clause-turned : goal.returns-clause-turned
returns-clause-turned c = λ far start r len run.
    let h = c.in-Some.ensures in
    let size = length-take-le c.args.t.cells c.args.ints.now run.counts in
    c.repair_from.ensures.turned far start r len (passed run c.in-Some.e h.0 (omega arith) h.2)
