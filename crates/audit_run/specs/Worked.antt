-- Banks of one byte, and their journals.
use Rattle.std.specs.Prelude.{ℕ, false, [], ◌∷◌, None}
use Rattle.pcc_audit.specs.Worked.{controller_head, given_out, sent}
use Rattle.journal_reading.specs.declared.told.Told.{Told}
use Rattle.pcc_wiring.specs.Registers.{no_masks}
use Rattle.pcc_setup.specs.declared.opening.Opened.{Opened}

-- a Bank on the subspace with this ID
abbrev pub bank : ℕ → Opened
bank id = record {
  head = record controller_head { id = id; cppc = false; room = 1 };
  wiring = record {
    kind = 0;
    id = id;
    notify = false;
    joined = false;
    has_bell = false;
    has_ack = false;
    reports = false;
    room = 1;
    bell = no_masks;
    ack = no_masks;
    update = no_masks;
    check_mask = 0;
    error_mask = 0;
  };
  image = [];
  cpus = [];
  caps = [];
}

-- Its journal: the first command takes a 5 in and gives a 0 out; the second one gives this byte out.
abbrev pub told : ℕ → ℕ → Told
told id byte = record {
  head = record controller_head { id = id; cppc = false; room = 1 };
  records = record (sent 16 0 (5 ∷ [])) { output = 0 ∷ [] } ∷ given_out byte ∷ [];
  pending = None;
}
