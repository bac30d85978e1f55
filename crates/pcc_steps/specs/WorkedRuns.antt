-- Worked runs, made by hand from the chapter's flows: which words each type loads, stores and swaps, in which order, for a space of 8 bytes.
use Rattle.std.specs.Prelude.{◌≡◌, ℕ, Bool, true, false, List, [], ◌∷◌, Option, Some, None}
use Rattle.pcc_gas.specs.declared.mask.Masks.{Masks}
use Rattle.pcc_steps.specs.declared.wiring.Wiring.{Wiring}
use Rattle.pcc_steps.specs.declared.wiring.Action.{Action}
use Rattle.pcc_steps.specs.declared.wiring.Action.TheVariants.{Load, Store, Swap, Execute}
use Rattle.pcc_steps.specs.Runs.{Run, ends, loads, stores, swaps, executes, AskEnd, posts, sees_clear, drains, AnswerEnd, finds_none, serves, post_run, look_run, answer_run}

-- what a run does, and how it ends
pub record Played (E : Type 0) : Type 0 where
  pub actions : List Action
  pub end : Option E

abbrev pub then : {E : Type 0} → Action → Played E → Played E
then x p = record p { actions = x ∷ p.actions }

-- a run that finds these words; a device leaves a bad command and this reply
abbrev pub played : {E : Type 0} → Bool → List ℕ → Run E → List ℕ → Played E
played bad reply (ends e) found = record { actions = []; end = Some e }
played bad reply (loads p f) [] = record { actions = []; end = None }
played bad reply (loads p f) (v ∷ found) = then (Load p) (played bad reply (f v) found)
played bad reply (stores p u r) found = then (Store p u) (played bad reply r found)
played bad reply (swaps p u f) [] = record { actions = []; end = None }
played bad reply (swaps p u f) (v ∷ found) = then (Swap p u) (played bad reply (f v) found)
played bad reply (executes code s f) found = then (Execute code) (played bad reply (f bad reply) found)

-- identity 1; the doorbell register keeps 0xfe and sets 1, the acknowledge register keeps 0xf0 and sets 3; completion is bit 0, the error bit 2
abbrev pub wired : ℕ → Bool → Bool → Bool → Masks → Wiring
wired kind joined reports notify update = record {
  kind = kind;
  id = 1;
  notify = notify;
  joined = joined;
  has_bell = true;
  has_ack = true;
  reports = reports;
  room = 8;
  bell = record { preserve = 254; set = 1 };
  ack = record { preserve = 240; set = 3 };
  update = update;
  check_mask = 1;
  error_mask = 4;
}

-- update registers: none, one that is the check register and clears or sets completion, and one of its own
abbrev pub no_update : Masks
no_update = record { preserve = 0; set = 0 }

abbrev pub clearing : Masks
clearing = record { preserve = 254; set = 0 }

abbrev pub setting : Masks
setting = record { preserve = 254; set = 1 }

abbrev pub separate : Masks
separate = record { preserve = 240; set = 2 }

-- the words of the block, and those that were last stored or loaded
abbrev pub posting : Wiring → List ℕ → List ℕ → List ℕ → Played AskEnd
posting w block old found = played false [] (post_run w 65 block old) found

abbrev pub looking : Wiring → List ℕ → Played AskEnd
looking w found = played false [] (look_run w) found

-- the device leaves 9 and seven zeros
abbrev pub answering : Bool → Wiring → List ℕ → Played AnswerEnd
answering bad w found = played bad (9 ∷ 0 ∷ 0 ∷ 0 ∷ 0 ∷ 0 ∷ 0 ∷ 0 ∷ []) (answer_run w) found

-- ---- the words of the block that changed, then what clears completion and rings the doorbell, by type

abbrev pub post_headed : Type 0
post_headed = posting (wired 2 false true true no_update) (7 ∷ []) (0 ∷ []) (84 ∷ [])
    ≡ record {
      actions = Store 8 7 ∷ Store 0 0x804150434301 ∷ Load 1 ∷ Store 1 85 ∷ Store 2 1 ∷ [];
      end = Some posts;
    }

-- no word of the block changed
abbrev pub post_headed_again : Type 0
post_headed_again = posting (wired 2 false true true no_update) (7 ∷ []) (7 ∷ []) (84 ∷ [])
    ≡ record {
      actions = Store 0 0x804150434301 ∷ Load 1 ∷ Store 1 85 ∷ Store 2 1 ∷ [];
      end = Some posts;
    }

abbrev pub post_joined3 : Type 0
post_joined3 = posting (wired 3 true true true clearing) (5 ∷ 6 ∷ 7 ∷ []) (5 ∷ 0 ∷ 8 ∷ []) (255 ∷ 84 ∷ [])
    ≡ record {
      actions = Store 9 6 ∷ Store 10 7 ∷ Load 0 ∷ Store 0 254 ∷ Load 1 ∷ Store 1 85 ∷ Store 2 1 ∷ [];
      end = Some posts;
    }

abbrev pub post_separate3 : Type 0
post_separate3 = posting (wired 3 false false false separate) (5 ∷ 6 ∷ 7 ∷ []) (4 ∷ 6 ∷ 8 ∷ []) (255 ∷ 9 ∷ 84 ∷ [])
    ≡ record {
      actions =
          Store 8 5 ∷ Store 10 7 ∷ Load 6 ∷ Store 6 242 ∷ Load 0 ∷ Store 0 8 ∷ Load 1 ∷ Store 1 85 ∷ Store 2 1 ∷ [];
      end = Some posts;
    }

abbrev pub post_joined4 : Type 0
post_joined4 = posting (wired 4 true true true setting) (5 ∷ 6 ∷ 7 ∷ []) (5 ∷ 6 ∷ 8 ∷ []) (9 ∷ [])
    ≡ record {
      actions = Store 10 7 ∷ Load 0 ∷ Store 0 8 ∷ Store 2 1 ∷ [];
      end = Some posts;
    }

abbrev pub post_separate4 : Type 0
post_separate4 = posting (wired 4 false true false separate) (5 ∷ 6 ∷ 7 ∷ []) (5 ∷ 6 ∷ 7 ∷ []) (9 ∷ [])
    ≡ record {
      actions = Load 0 ∷ Store 0 8 ∷ Store 2 1 ∷ [];
      end = Some posts;
    }

abbrev pub post_reduced5 : Type 0
post_reduced5 = posting (wired 5 false true false no_update) (5 ∷ 7 ∷ []) (5 ∷ 8 ∷ []) (84 ∷ 9 ∷ [])
    ≡ record {
      actions = Store 9 7 ∷ Load 1 ∷ Store 1 85 ∷ Load 0 ∷ Store 0 8 ∷ Store 2 1 ∷ [];
      end = Some posts;
    }

-- ---- completion, the error register, the block, and the interrupt line with its acknowledge register

abbrev pub look_clear : Type 0
look_clear = looking (wired 2 false true true no_update) (0x804150434301 ∷ [])
    ≡ record {
      actions = Load 0 ∷ [];
      end = Some sees_clear;
    }

abbrev pub look_headed : Type 0
look_headed = looking (wired 2 false true true no_update) (0x5804150434301 ∷ 7 ∷ 1 ∷ 255 ∷ [])
    ≡ record {
      actions = Load 0 ∷ Load 8 ∷ Load 4 ∷ Store 4 0 ∷ Load 5 ∷ Store 5 243 ∷ [];
      end = Some (drains true (7 ∷ []));
    }

abbrev pub look_headed_quietly : Type 0
look_headed_quietly = looking (wired 1 false true false no_update) (0x1004150434301 ∷ 7 ∷ [])
    ≡ record {
      actions = Load 0 ∷ Load 8 ∷ [];
      end = Some (drains false (7 ∷ []));
    }

abbrev pub look_joined3 : Type 0
look_joined3 = looking (wired 3 true true true clearing) (1 ∷ 4 ∷ 5 ∷ 6 ∷ 7 ∷ 1 ∷ 255 ∷ [])
    ≡ record {
      actions = Load 0 ∷ Load 3 ∷ Load 8 ∷ Load 9 ∷ Load 10 ∷ Load 4 ∷ Store 4 0 ∷ Load 5 ∷ Store 5 243 ∷ [];
      end = Some (drains true (5 ∷ 6 ∷ 7 ∷ []));
    }

abbrev pub look_separate3 : Type 0
look_separate3 = looking (wired 3 false false false separate) (1 ∷ 5 ∷ 6 ∷ 7 ∷ [])
    ≡ record {
      actions = Load 0 ∷ Load 8 ∷ Load 9 ∷ Load 10 ∷ [];
      end = Some (drains false (5 ∷ 6 ∷ 7 ∷ []));
    }

abbrev pub look_joined4 : Type 0
look_joined4 = looking (wired 4 true true true setting) (1 ∷ 0 ∷ 5 ∷ 6 ∷ 7 ∷ 1 ∷ [])
    ≡ record {
      actions = Load 0 ∷ Load 3 ∷ Load 8 ∷ Load 9 ∷ Load 10 ∷ Load 4 ∷ Store 4 0 ∷ [];
      end = Some (drains false (5 ∷ 6 ∷ 7 ∷ []));
    }

abbrev pub look_separate4 : Type 0
look_separate4 = looking (wired 4 false true true separate) (1 ∷ 4 ∷ 5 ∷ 6 ∷ 7 ∷ 0 ∷ [])
    ≡ record {
      actions = Load 0 ∷ Load 3 ∷ Load 8 ∷ Load 9 ∷ Load 10 ∷ Load 4 ∷ [];
      end = Some (drains true (5 ∷ 6 ∷ 7 ∷ []));
    }

abbrev pub look_reduced5 : Type 0
look_reduced5 = looking (wired 5 false true false no_update) (1 ∷ 4 ∷ 5 ∷ 7 ∷ [])
    ≡ record {
      actions = Load 0 ∷ Load 3 ∷ Load 8 ∷ Load 9 ∷ [];
      end = Some (drains true (5 ∷ 7 ∷ []));
    }

-- ---- the doorbell line, what acknowledges it, the block, the words of the reply that differ from it, the error register, completion, the
-- doorbell and the interrupt line

abbrev pub answer_none : Type 0
answer_none = answering false (wired 3 true true true clearing) (0 ∷ [])
    ≡ record {
      actions = Swap 2 0 ∷ [];
      end = Some finds_none;
    }

abbrev pub answer_headed : Type 0
answer_headed = answering true (wired 2 false true true no_update) (1 ∷ 0x804150434301 ∷ 7 ∷ [])
    ≡ record {
      actions = Swap 2 0 ∷ Load 0 ∷ Load 8 ∷ Execute 65 ∷ Store 8 9 ∷ Store 0 0x5804150434301 ∷ Store 4 1 ∷ [];
      end = Some serves;
    }

abbrev pub answer_joined3 : Type 0
answer_joined3 = answering true (wired 3 true true true clearing) (1 ∷ 0x100000000 ∷ 0x4100000000 ∷ 7 ∷ 8 ∷ [])
    ≡ record {
      actions =
          Swap 2 0 ∷ Load 8 ∷ Load 9 ∷ Load 10 ∷ Execute 65 ∷ Store 10 9 ∷ Store 3 4 ∷ Load 0 ∷ Store 0 9 ∷ Store 4 1 ∷ [];
      end = Some serves;
    }

abbrev pub answer_separate3 : Type 0
-- the reply is what was loaded
answer_separate3 = answering false (wired 3 false false false separate) (1 ∷ 0 ∷ 0x4100000000 ∷ 9 ∷ 8 ∷ [])
    ≡ record {
      actions = Swap 2 0 ∷ Load 8 ∷ Load 9 ∷ Load 10 ∷ Execute 65 ∷ Load 0 ∷ Store 0 9 ∷ [];
      end = Some serves;
    }

abbrev pub answer_joined4 : Type 0
answer_joined4 = answering false (wired 4 true true true setting) (1 ∷ 255 ∷ 0x100000000 ∷ 0x4100000000 ∷ 7 ∷ 8 ∷ 84 ∷ [])
    ≡ record {
      actions =
          Swap 2 0 ∷ Load 5 ∷ Store 5 243 ∷ Load 8 ∷ Load 9 ∷ Load 10 ∷ Execute 65 ∷ Store 10 9 ∷ Store 3 0 ∷ Load 0 ∷ Store 0 9 ∷
          Load 1 ∷ Store 1 85 ∷ Store 4 1 ∷ [];
      end = Some serves;
    }

abbrev pub answer_separate4 : Type 0
answer_separate4 = answering true (wired 4 false true false separate) (1 ∷ 255 ∷ 0 ∷ 0x4100000000 ∷ 7 ∷ 255 ∷ 8 ∷ 84 ∷ [])
    ≡ record {
      actions =
          Swap 2 0 ∷ Load 5 ∷ Store 5 243 ∷ Load 8 ∷ Load 9 ∷ Load 10 ∷ Execute 65 ∷ Store 10 9 ∷ Store 3 4 ∷ Load 6 ∷
          Store 6 242 ∷ Load 0 ∷ Store 0 9 ∷ Load 1 ∷ Store 1 85 ∷ [];
      end = Some serves;
    }

abbrev pub answer_reduced5 : Type 0
answer_reduced5 = answering true (wired 5 false true false no_update) (1 ∷ 0x4100000000 ∷ 7 ∷ 8 ∷ [])
    ≡ record {
      actions = Swap 2 0 ∷ Load 8 ∷ Load 9 ∷ Execute 65 ∷ Store 9 9 ∷ Store 3 4 ∷ Load 0 ∷ Store 0 9 ∷ [];
      end = Some serves;
    }
