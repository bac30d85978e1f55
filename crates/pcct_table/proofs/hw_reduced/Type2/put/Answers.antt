use Rattle.pcct_table.proofs.hw_reduced.Type2.put.Goals as goal

pub returns : goal.returns
returns c = rw (c.u32_bytes.ensures, c.u8_bytes.ensures, c.u64_bytes.ensures, c.u64_bytes-2.ensures, c.gas_to.ensures.bytes, c.u64_bytes-3.ensures, c.u64_bytes-4.ensures, c.u32_bytes-2.ensures, c.u32_bytes-3.ensures, c.u16_bytes.ensures, c.gas_to-2.ensures.bytes, c.u64_bytes-5.ensures, c.u64_bytes-6.ensures) at c.put_all.ensures
