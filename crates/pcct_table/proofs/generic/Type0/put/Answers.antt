use Rattle.pcct_table.proofs.generic.Type0.put.Goals as goal

pub returns : goal.returns
returns c = rw (c.u64_bytes.ensures, c.u64_bytes-2.ensures, c.gas_to.ensures.bytes, c.u64_bytes-3.ensures, c.u64_bytes-4.ensures, c.u32_bytes.ensures, c.u32_bytes-2.ensures, c.u16_bytes.ensures) at c.put_all.ensures
