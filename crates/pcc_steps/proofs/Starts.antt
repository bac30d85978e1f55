-- The relation holds of two new machines, and what it says of the two histories.
use Rattle.std.proofs.Common.{◌≡◌, ◌⊎◌, ℕ, ◌+◌, ◌^◌, ◌<◌, Bool, true, false, not, List, [], ◌∷◌, ◌++◌, drop, refl, sym, ap, ◌∙◌, subst, inl, inr, arith, ne_eqb}
use lib.Bits.{bit_and}
use Rattle.std.specs.Int.Bits.{and_self}
use Rattle.pcc_bytes.specs.Bytes.{IsBytes}
use Rattle.pcc_history.specs.Devices.{Device}
use Rattle.pcc_history.specs.Channel.{Exchange}
use Rattle.shmem_header.proofs.Commands.{is_set-header_word_complete}
use Rattle.shmem_header.specs.Spelling.{words_of}
use Rattle.pcc_steps.specs.declared.wiring.Wiring.{Wiring}
use Rattle.pcc_steps.specs.declared.wiring.Style.{Style}
use Rattle.pcc_steps.specs.declared.wiring.Style.TheVariants.{Headed, Joined3, Separate3, Joined4, Separate4, Reduced5}
use Rattle.pcc_steps.specs.declared.ask.AskStage.{AskStage}
use Rattle.pcc_steps.specs.declared.ask.AskStage.TheVariants.{AskRest}
use Rattle.pcc_steps.specs.declared.answer.AnswerStage.{AnswerStage}
use Rattle.pcc_steps.specs.declared.answer.AnswerStage.TheVariants.{AnswerRest}
use Rattle.pcc_steps.specs.Wires.{style_of, heads_of, IsRight, is_complete, opening_word, opening_header, opening_words}
use Rattle.pcc_steps.specs.Asking.{Ask, AskOk, IsNewAsk}
use Rattle.pcc_steps.specs.Answering.{Answer, AnswerOk, IsNewAnswer}
use Rattle.pcc_steps.specs.Agree.{Core, Asker, Answerer, Pose, free, writing, cleared, waiting, reading, pose, pose_at, Turn, quiet, taken, replying, turn, turn_at, Fits, flight, answered, new_asker, trail, is_pending_at, HasAskedBy, flying, IsBetween, Agree}
use Rattle.pcc_steps.proofs.Bits.{set_opened, unheaded}

opened_first : (s : Style) (w : Wiring) → style_of w ≡ s → IsRight w → w.id < 2 ^ 8 → is_complete s w.check_mask (opening_word s w) ≡ true
opened_first Headed w is right id = is_set-header_word_complete 0 false 1 w.id (record { code_fits = omega arith; status_fits = omega arith; id_fits = id })
opened_first s w is right id = ap not (ne_eqb (bit_and w.check_mask w.check_mask) 0 (λ z. right.check (unheaded w (λ headed. let e = sym is ∙ headed in cc)) (sym (and_self w.check_mask) ∙ z)))

behind_opening : (s : Style) (w : Wiring) (ws : List ℕ) → drop (heads_of s) (opening_header s w ++ ws) ≡ ws
behind_opening Headed w ws = refl
behind_opening Joined3 w ws = refl
behind_opening Separate3 w ws = refl
behind_opening Joined4 w ws = refl
behind_opening Separate4 w ws = refl
behind_opening Reduced5 w ws = refl

posed : (a : Ask) → a.stage ≡ AskRest → a.in_flight ≡ false → pose a ≡ free
posed a e f = subst (λ (z : AskStage × Bool). pose_at z.0 (record a { in_flight = z.1 }) ≡ free) (λ i. (sym e i, sym f i)) refl

turned : (b : Answer) → b.stage ≡ AnswerRest → turn b ≡ quiet
turned b e = ap (λ (s : AnswerStage). turn_at s b) e

module _ (exec : Device) where
  starts_at : (opening : List ℕ) (a : Ask) (b : Answer) (d : List ℕ) → a.stage ≡ AskRest → a.in_flight ≡ false
      → a.shown ≡ opening_header (style_of a.wiring) a.wiring ++ words_of opening → a.space ≡ opening → a.sent ≡ a.shown → a.input ≡ opening → a.code ≡ 0
      → a.posts ≡ 0
      → b.wiring ≡ a.wiring → b.stage ≡ AnswerRest → AskOk a → AnswerOk b → IsBytes opening → Agree exec d (opening_words a.wiring (words_of opening)) (new_asker a opening) (record { m = b; device = d; done = [] })
  starts_at opening a b d rest grounded shown space sent input code posts wired quiet_now ok ok' bytes = let w = a.wiring in let s : Style = style_of w in let ws : List ℕ = words_of opening in
      let x : Asker = new_asker a opening in let y : Answerer = record { m = b; device = d; done = [] } in
      let c : Core = record { completion = opening_word s w; line = 0; error = 0; irq = 0; block = opening_header s w ++ ws } in
      let spelled : drop (heads_of s) a.shown ≡ ws = ap (λ (l : List ℕ). drop (heads_of s) l) shown ∙ behind_opening s w ws in (
        c,
        (
          record { bell = 0; ack = 0; update = 0; spare = 0 },
          refl,
          record {
            ask_ok = ok;
            answer_ok = ok';
            between = subst IsBetween (sym quiet_now) tt;
            same = wired;
            legal = tt;
            device = refl;
            room = tt;
            sent = record { words = ap (λ (l : List ℕ). drop (heads_of s) l) sent ∙ (spelled ∙ ap words_of (sym input)); fits = subst IsBytes (sym input) bytes };
            shown = record { words = spelled ∙ ap words_of (sym space); fits = subst IsBytes (sym space) bytes };
            asked = subst (λ (z : AskStage × Bool). HasAskedBy (is_pending_at z.0 z.1) (trail x)) (λ i. (sym rest i, sym grounded i)) (record { inputs = tt; output = space; block = shown ∙ ap (λ (o : List ℕ). opening_header s w ++ words_of o) (sym space) });
            posts = posts ∙ ap (λ (b : Bool). 0 + flying b) (sym grounded);
            irq = omega arith;
            fits = subst (λ (q : Pose × Turn). Fits q.0 q.1 x y c) (λ i. (sym (posed a rest grounded) i, sym (turned b quiet_now) i))
                (refl, record { completion = set_opened s w a.code (opening_word s w) (opened_first s w refl ok.wired ok.id); line = refl; block = sym shown; done = refl });
          },
        ),
      )

  -- two new machines over the opening content
  pub starts : (w : Wiring) (opening : List ℕ) (a : Ask) (b : Answer) (d : List ℕ) → IsNewAsk a w opening → IsNewAnswer b w → AskOk a → AnswerOk b
      → IsBytes opening
      → Agree exec d (opening_words w (words_of opening)) (new_asker a opening) (record { m = b; device = d; done = [] })
  starts w opening a b d new new' ok ok' bytes = subst (λ (w : Wiring). a.shown ≡ opening_header (style_of w) w ++ words_of opening → b.wiring ≡ w → Agree exec d (opening_words w (words_of opening)) (new_asker a opening) (record { m = b; device = d; done = [] })) new.0
      (λ shown wired. starts_at opening a b d new.1 new.2 shown new.4 new.5 new.6 new.7 new.10 wired new'.1 ok ok' bytes) new.3 new'.0

-- ---- the two histories

-- a command that was executed is drained, or it is the one in flight
pub histories : (q : Pose) (t : Turn) (x : Asker) (y : Answerer) (c : Core) → Fits q t x y c
    → (y.done ≡ x.done) ⊎ ((e : Exchange) × (y.done ≡ x.done ++ e ∷ []))
histories free t x y c f = inl f.1.done
histories (writing j) t x y c f = inl f.1.done
histories cleared t x y c f = inl f.1.done
histories waiting quiet x y c (inl r) = inl r.done
histories waiting quiet x y c (inr d) = inr (answered (flight x) d.0.0 d.0.1, d.1.row.done)
histories waiting (taken j) x y c f = inl f.row.done
histories waiting (replying j) x y c f = inr (_, f.row.done)
histories (reading j) t x y c f = inr (_, f.1.is.row.done)
