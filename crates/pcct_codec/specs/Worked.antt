-- What the worked tables say.
use Rattle.std.specs.Prelude.{ℕ, zero, suc, List, [], ◌∷◌, ◌++◌, codes}
use Rattle.pcct_table.specs.declared.subspace.Subspace.TheVariants.{Generic}
use Rattle.pcct_table.specs.declared.table.Table.{Table}

-- a table without a subspace
abbrev pub no_subspaces : Table
no_subspaces = record {
  revision = 2;
  oem_id = codes "PCCRUN";
  oem_table = codes "EXAMPLE1";
  oem_revision = 1;
  creator = codes "TEST";
  creator_revision = 1;
  flags = 0;
  reserved = 0 ∷ 0 ∷ 0 ∷ 0 ∷ 0 ∷ 0 ∷ 0 ∷ 0 ∷ [];
  subspaces = [];
}

-- the same with one generic subspace: 24 bytes of memory at 0x8000_0000, and a doorbell register of 32 bits at 0xfed0_0000
abbrev pub one_generic : Table
one_generic = record no_subspaces {
  subspaces =
      Generic
      (record {
        reserved = 0 ∷ 0 ∷ 0 ∷ 0 ∷ 0 ∷ 0 ∷ [];
        base = 0x80000000;
        length = 24;
        doorbell = record { space = 0; width = 32; offset = 0; access = 3; address = 0xfed00000 };
        preserve = 0xfffffffe;
        write = 1;
        latency = 1000;
        rate = 0;
        turnaround = 0;
      })
      ∷ [];
}

-- the same bytes n times
abbrev pub repeated : ℕ → List ℕ → List ℕ
repeated zero bytes = []
repeated (suc n) bytes = bytes ++ repeated n bytes
