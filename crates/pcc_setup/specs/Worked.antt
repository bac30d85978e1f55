-- Worked subspaces.
use Rattle.std.specs.Prelude.{ℕ, Bool, true, false, List, []}
use Rattle.pcc_gas.specs.declared.mask.Masks.{Masks}
use Rattle.pcc_script.specs.declared.scenario.CapLine.{CapLine}
use Rattle.pcc_setup.specs.declared.opening.Opened.{Opened}

abbrev pub no_masks : Masks
no_masks = record { preserve = 0; set = 0 }

-- a subspace of type 0 with an ID, a room and an image, which is opened for a controller or not
abbrev pub subspace : Bool → ℕ → ℕ → List ℕ → Opened
subspace cppc id room image = record {
  head = record { id = id; kind = 0; cppc = cppc; room = room; limits = record { turnaround = 0; per_minute = 0 }; reports = true };
  wiring = record {
    kind = 0;
    id = id;
    notify = false;
    joined = false;
    has_bell = true;
    has_ack = false;
    reports = true;
    room = room;
    bell = no_masks;
    ack = no_masks;
    update = no_masks;
    check_mask = 0;
    error_mask = 0;
  };
  image = image;
  cpus = [];
  caps = [];
}

abbrev pub cap : ℕ → ℕ → CapLine
cap id count = record { id = id; count = count; value = 90 }
