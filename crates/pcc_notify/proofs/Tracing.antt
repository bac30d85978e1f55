-- What the lines of a trace post.
use Rattle.std.proofs.Common.{◌≡◌, ℕ, Bool, List, [], ◌∷◌, ◌++◌, refl, sym, ap, ◌∙◌}
use Rattle.std.specs.Prelude.{Option, Result, Ok, Err, OnOk, OnErr, take}
use Rattle.std.proofs.lemmas.List.{append_assoc, append-nil}
use Rattle.pcc_history.specs.Devices.{Device}
use Rattle.pcc_journal.specs.Records.{exchanges_of}
use Rattle.pcc_steps.specs.Agree.{act}
use Rattle.pcc_steps.specs.declared.wiring.Wiring.{Wiring}
use Rattle.channel_plain.proofs.PickKeeps.{picked_kept}
use Rattle.channel_plain.specs.Picks.{CallsState, PlainState, Picked, asks_by, line_of, pending_by, picked}
use Rattle.channel_plain.specs.Standing.{Stands}
use Rattle.channel_plain.specs.Weaving.{Clocked, IsFresh, IsWeave, Wove, unpicked, picks}
use Rattle.channel_plain.specs.declared.trace.Asked.{Asked}
use Rattle.channel_plain.specs.declared.trace.Side.{Side}
use Rattle.channel_plain.specs.declared.trace.TraceLine.{TraceLine}
use Rattle.pcc_notify.proofs.Handling.{are_notices}
use Rattle.pcc_notify.proofs.Posting.{pick_posts}
use Rattle.pcc_notify.specs.declared.notice.Notice.{Notice}
use Rattle.pcc_notify.specs.Notices.{IsNotifying, Notified, flying_of, handled_of, posted_of, posts_by, posts_from, posts_of}

-- the words after some lines
abbrev acted : List ℕ → List TraceLine → List ℕ
acted ws [] = ws
acted ws (l ∷ ls) = acted (act l.action ws) ls

acted_more : (ws : List ℕ) (ls : List TraceLine) (l : TraceLine) → acted ws (ls ++ l ∷ []) ≡ act l.action (acted ws ls)
acted_more ws [] l = refl
acted_more ws (m ∷ ms) l = acted_more (act m.action ws) ms l

from_more : (w : Wiring) (ws : List ℕ) (ls : List TraceLine) (l : TraceLine)
    → posts_from w ws (ls ++ l ∷ []) ≡ posts_from w ws ls ++ posts_by l.end w (act l.action (acted ws ls))
from_more w ws [] l = append-nil (posts_by l.end w (act l.action ws))
from_more w ws (m ∷ ms) l = let ns : List Notice = posts_by m.end w (act m.action ws) in
    ap (λ (x : List Notice). ns ++ x) (from_more w (act m.action ws) ms l)
    ∙ sym (append_assoc ns (posts_from w (act m.action ws) ms) (posts_by l.end w (act l.action (acted (act m.action ws) ms))))

module _ {K : Type 0} (taken : K → ℕ) (tells : K → ℕ → Option ℕ) (exec : Device) (calls : List Asked) (is_state : List ℕ → Type 0) (room_of : List ℕ → ℕ) where
  record Traced (s : PlainState) (ls : List TraceLine) (t : PlainState) : Type 0 where
    words : t.words ≡ acted s.words ls
    wiring : t.ask.wiring ≡ s.ask.wiring
    posts : posted_of t ≡ posted_of s ++ posts_from s.ask.wiring s.words ls

  traced : (s : PlainState) (k : K) (sides : List Side) (ls : List TraceLine) (rs : List ℕ) (t : PlainState) (m : K)
      → Wove taken tells exec calls is_state room_of s k sides ls rs t m → Traced s ls t
  traced s k sides ls rs t m unpicked = record { words = refl; wiring = refl; posts = sym (append-nil (posted_of s)) }
  traced s k sides ls rs t m (picks before ms qs u n n' side r w stands after serving takes) =
      let h = traced s k before ms qs u n w in
      let p : Picked = picked exec calls side r u in
      let l : TraceLine = line_of side p in
      let q = picked_kept exec is_state room_of (asks_by u.ask.wiring.kind side) calls u r stands in
      let here : p.state.words ≡ act l.action (acted s.words ms) = q.words ∙ ap (act l.action) h.words in
      record {
        words = here ∙ sym (acted_more s.words ms l);
        wiring = q.wiring ∙ h.wiring;
        posts = pick_posts exec is_state room_of calls side u r stands
            ∙ (ap (λ (z : List Notice × Wiring × List ℕ). z.0 ++ posts_by l.end z.1 z.2) (λ i. (h.posts i, h.wiring i, here i))
            ∙ (append_assoc (posted_of s) (posts_from s.ask.wiring s.words ms) (posts_by l.end s.ask.wiring (act l.action (acted s.words ms)))
            ∙ ap (λ (x : List Notice). posted_of s ++ x) (sym (from_more s.ask.wiring s.words ms l))));
      }

  -- a new channel's trace posts what was posted
  pub trace_posts : (s : PlainState) (k : K) (sides : List Side) (ls : List TraceLine) (rs : List ℕ) (t : PlainState) (m : K) → IsFresh s
      → Wove taken tells exec calls is_state room_of s k sides ls rs t m → posted_of t ≡ posts_of s.ask.wiring ls
  trace_posts s k sides ls rs t m new w = let h = traced s k sides ls rs t m w in
      h.posts ∙ (ap (λ (x : List Notice). x ++ posts_from s.ask.wiring s.words ls) none ∙ ap (λ (ws : List ℕ). posts_from s.ask.wiring ws ls) new.words)
    where
      none : posted_of s ≡ []
      none = ap (λ (z : CallsState × Bool). handled_of (exchanges_of z.0.records) ++ flying_of (pending_by z.1 z.0.sent)) (λ i. (new.calls i, new.ask.2 i))

  -- ---- a whole run of picks

  abbrev pub notified : Clocked K → Notified K
  notified x = record { channel = x.channel; clock = x.clock; posted = posted_of x.channel }

  pub notifying : (sides : List Side) (old new : Clocked K) (trace : List TraceLine) → IsFresh old.channel → Stands exec is_state room_of new.channel
      → IsWeave taken tells exec calls is_state room_of sides old trace new
      → IsNotifying taken tells exec calls is_state room_of sides (notified old) trace (notified new)
  notifying sides old new trace fresh stands w = record {
    weave = w;
    posted = trace_posts old.channel old.clock sides trace w.readings new.channel new.clock fresh w.wove;
    notices = are_notices exec is_state room_of new.channel stands;
  }

  pub run_notifies : {T E : Type 0} (result : Result T E) (sides : List Side) (old new : Clocked K) (Shown : List TraceLine → Type 0) → IsFresh old.channel
      → Stands exec is_state room_of new.channel
      → OnOk result ((trace : List TraceLine) × IsWeave taken tells exec calls is_state room_of sides old trace new × Shown trace)
      → OnOk result ((trace : List TraceLine) × IsNotifying taken tells exec calls is_state room_of sides (notified old) trace (notified new) × Shown trace)
  run_notifies (Ok v) sides old new Shown fresh stands h = (h.0, notifying sides old new h.0 fresh stands h.1, h.2)
  run_notifies (Err e) sides old new Shown fresh stands h = tt

  pub cut_notifies : {T E : Type 0} (result : Result T E) (sides : List Side) (old new : Clocked K) → IsFresh old.channel → Stands exec is_state room_of new.channel
      → OnErr result ((n : ℕ) × (trace : List TraceLine) × IsWeave taken tells exec calls is_state room_of (take n sides) old trace new)
      → OnErr result ((n : ℕ) × (trace : List TraceLine) × IsNotifying taken tells exec calls is_state room_of (take n sides) (notified old) trace (notified new))
  cut_notifies (Ok v) sides old new fresh stands h = tt
  cut_notifies (Err e) sides old new fresh stands h = (h.0, h.1, notifying (take h.0 sides) old new h.1 fresh stands h.2)
