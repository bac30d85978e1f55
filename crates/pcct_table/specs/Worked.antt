-- What the worked structures say, one of each type. Each of their bytes after the first two is its place and one, so a field that were
-- read at another place would say something else.
use Rattle.std.specs.Prelude.{[], ◌∷◌}
use Rattle.pcct_table.specs.declared.extended.Type34.{Type34}
use Rattle.pcct_table.specs.declared.subspace.Subspace.{Subspace}
use Rattle.pcct_table.specs.declared.subspace.Subspace.TheVariants.{Generic, HwReduced1, HwReduced2, Initiator, Responder, HwRegister, Other}

abbrev pub generic : Subspace
generic =
    Generic (record {
      reserved = 3 ∷ 4 ∷ 5 ∷ 6 ∷ 7 ∷ 8 ∷ [];
      base = 0x100f0e0d0c0b0a09;
      length = 0x1817161514131211;
      doorbell = record { space = 25; width = 26; offset = 27; access = 28; address = 0x24232221201f1e1d };
      preserve = 0x2c2b2a2928272625;
      write = 0x34333231302f2e2d;
      latency = 0x38373635;
      rate = 0x3c3b3a39;
      turnaround = 0x3e3d;
    })

abbrev pub hw_reduced1 : Subspace
hw_reduced1 =
    HwReduced1 (record {
      interrupt = 0x06050403;
      interrupt_flags = 0x07;
      reserved = 8 ∷ [];
      base = 0x100f0e0d0c0b0a09;
      length = 0x1817161514131211;
      doorbell = record { space = 25; width = 26; offset = 27; access = 28; address = 0x24232221201f1e1d };
      preserve = 0x2c2b2a2928272625;
      write = 0x34333231302f2e2d;
      latency = 0x38373635;
      rate = 0x3c3b3a39;
      turnaround = 0x3e3d;
    })

abbrev pub hw_reduced2 : Subspace
hw_reduced2 =
    HwReduced2 (record {
      interrupt = 0x06050403;
      interrupt_flags = 0x07;
      reserved = 8 ∷ [];
      base = 0x100f0e0d0c0b0a09;
      length = 0x1817161514131211;
      doorbell = record { space = 25; width = 26; offset = 27; access = 28; address = 0x24232221201f1e1d };
      preserve = 0x2c2b2a2928272625;
      write = 0x34333231302f2e2d;
      latency = 0x38373635;
      rate = 0x3c3b3a39;
      turnaround = 0x3e3d;
      ack = record { space = 63; width = 64; offset = 65; access = 66; address = 0x4a49484746454443 };
      ack_preserve = 0x5251504f4e4d4c4b;
      ack_write = 0x5a59585756555453;
    })

abbrev pub extended : Type34
extended = record {
  interrupt = 0x06050403;
  interrupt_flags = 0x07;
  reserved = 8 ∷ [];
  base = 0x100f0e0d0c0b0a09;
  length = 0x14131211;
  doorbell = record { space = 21; width = 22; offset = 23; access = 24; address = 0x201f1e1d1c1b1a19 };
  preserve = 0x2827262524232221;
  write = 0x302f2e2d2c2b2a29;
  latency = 0x34333231;
  rate = 0x38373635;
  turnaround = 0x3c3b3a39;
  ack = record { space = 61; width = 62; offset = 63; access = 64; address = 0x4847464544434241 };
  ack_preserve = 0x504f4e4d4c4b4a49;
  ack_set = 0x5857565554535251;
  reserved2 = 89 ∷ 90 ∷ 91 ∷ 92 ∷ 93 ∷ 94 ∷ 95 ∷ 96 ∷ [];
  check = record { space = 97; width = 98; offset = 99; access = 100; address = 0x6c6b6a6968676665 };
  check_mask = 0x74737271706f6e6d;
  update = record { space = 117; width = 118; offset = 119; access = 120; address = 0x807f7e7d7c7b7a79 };
  update_preserve = 0x8887868584838281;
  update_set = 0x908f8e8d8c8b8a89;
  error = record { space = 145; width = 146; offset = 147; access = 148; address = 0x9c9b9a9998979695 };
  error_mask = 0xa4a3a2a1a09f9e9d;
}

abbrev pub initiator : Subspace
initiator = Initiator extended

abbrev pub responder : Subspace
responder = Responder extended

abbrev pub hw_register : Subspace
hw_register =
    HwRegister (record {
      version = 0x0403;
      base = 0x0c0b0a0908070605;
      length = 0x14131211100f0e0d;
      doorbell = record { space = 21; width = 22; offset = 23; access = 24; address = 0x201f1e1d1c1b1a19 };
      preserve = 0x2827262524232221;
      write = 0x302f2e2d2c2b2a29;
      check = record { space = 49; width = 50; offset = 51; access = 52; address = 0x3c3b3a3938373635 };
      check_mask = 0x44434241403f3e3d;
      error = record { space = 69; width = 70; offset = 71; access = 72; address = 0x504f4e4d4c4b4a49 };
      error_mask = 0x5857565554535251;
      latency = 0x5c5b5a59;
      turnaround = 0x605f5e5d;
    })

abbrev pub later : Subspace
later = Other (record { kind = 6; bytes = 3 ∷ 4 ∷ 5 ∷ [] })

abbrev pub last : Subspace
last = Other (record { kind = 255; bytes = [] })
