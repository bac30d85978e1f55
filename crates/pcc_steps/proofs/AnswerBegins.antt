-- What begins a run of the answering end, and its count of steps, keep the relation.
use Rattle.std.proofs.Common.{arith, ◌≡◌, ℕ, List, refl, sym, subst}
use Rattle.pcc_history.specs.Devices.{Device}
use Rattle.pcc_steps.specs.declared.answer.AnswerStage.{AnswerStage}
use Rattle.pcc_steps.specs.declared.answer.AnswerStage.TheVariants.{AnswerRest}
use Rattle.pcc_steps.specs.Answering.{Answer, answer_begun}
use Rattle.pcc_steps.specs.Asking.{rose}
use Rattle.pcc_steps.specs.Agree.{Core, Asker, Answerer, answerer_stepped, Pose, free, writing, cleared, waiting, reading, pose, Turn, quiet, taken, replying, turn, turn_at, flight, Waits, Fits, Agreed, Agree}

module _ (exec : Device) (start : List ℕ) where
  -- a quiet answering end is seen by its history alone
  still : (q : Pose) (x : Asker) (y : Answerer) (c : Core) (m : Answer) → Fits q quiet x y c → Fits q quiet x (record y { m = m }) c
  still free x y c m f = f
  still (writing j) x y c m f = f
  still cleared x y c m f = f
  still waiting x y c m f = f
  still (reading j) x y c m f = f

  begins_at : (x : Asker) (y : Answerer) (c : Core) → Agreed exec start x (record y { m = record y.m { stage = AnswerRest } }) c
      → Agreed exec start x (record y { m = answer_begun y.m }) c
  begins_at x y c g = let ok = g.answer_ok in record {
    ask_ok = g.ask_ok;
    answer_ok = record { wired = ok.wired; sized = ok.sized; place = tt; kept = ok.kept; header = omega arith };
    between = tt;
    same = g.same;
    legal = g.legal;
    device = g.device;
    room = g.room;
    sent = g.sent;
    shown = g.shown;
    asked = g.asked;
    posts = g.posts;
    irq = g.irq;
    fits = still (pose x.m) x (record y { m = record y.m { stage = AnswerRest } }) c (answer_begun y.m) g.fits;
  }

  -- an answering run begins
  pub begins : (y : Answerer) → y.m.stage ≡ AnswerRest → (ws : List ℕ) (x : Asker) → Agree exec start ws x y
      → Agree exec start ws x (record y { m = answer_begun y.m })
  begins y rest ws x g = (g.0, (g.1.0, g.1.1, begins_at x y g.0 (subst (λ (s : AnswerStage). Agreed exec start x (record y { m = record y.m { stage = s } }) g.0) rest g.1.2)))

  -- the number of steps is no part of a phase
  waited : (t : Turn) (x : Asker) (y : Answerer) (c : Core) (n : ℕ) → Waits t (flight x) y c → Waits t (flight x) (record y { m = record y.m { steps = n } }) c
  waited quiet x y c n f = f
  waited (taken j) x y c n f = record { row = f.row; loaded = f.loaded; header = f.header }
  waited (replying j) x y c n f = record { row = f.row; header = f.header; loaded = f.loaded; out = f.out; bytes = f.bytes; told = f.told }

  counted : (q : Pose) (t : Turn) (x : Asker) (y : Answerer) (c : Core) (n : ℕ) → Fits q t x y c → Fits q t x (record y { m = record y.m { steps = n } }) c
  counted free t x y c n f = f
  counted (writing j) t x y c n f = f
  counted cleared t x y c n f = f
  counted waiting t x y c n f = waited t x y c n f
  counted (reading j) t x y c n f = f

  turned : (st : AnswerStage) (a : Answer) (n : ℕ) → turn_at st (record a { steps = n }) ≡ turn_at st a
  turned AnswerRest a n = refl
  turned _ a n = refl

  counts_at : (x : Asker) (y : Answerer) (c : Core) (n : ℕ) → Agreed exec start x y c → Agreed exec start x (record y { m = record y.m { steps = n } }) c
  counts_at x y c n g = let ok = g.answer_ok in record {
    ask_ok = g.ask_ok;
    answer_ok = record { wired = ok.wired; sized = ok.sized; place = ok.place; kept = ok.kept; header = ok.header };
    between = g.between;
    same = g.same;
    legal = g.legal;
    device = g.device;
    room = g.room;
    sent = g.sent;
    shown = g.shown;
    asked = g.asked;
    posts = g.posts;
    irq = g.irq;
    fits = subst (λ (t : Turn). Fits (pose x.m) t x (record y { m = record y.m { steps = n } }) c) (sym (turned y.m.stage y.m n)) (counted (pose x.m) (turn y.m) x y c n g.fits);
  }

  -- a step is counted
  pub steps : (x : Asker) (y : Answerer) (ws : List ℕ) → Agree exec start ws x y → Agree exec start ws x (answerer_stepped y)
  steps x y ws g = (g.0, (g.1.0, g.1.1, counts_at x y g.0 (rose y.m.steps) g.1.2))
