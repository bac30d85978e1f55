use Rattle.pcct_table.proofs.hw_register.Type5.put.Goals as goal

pub returns : goal.returns
returns c = rw (c.u16_bytes.ensures, c.u64_bytes.ensures, c.u64_bytes-2.ensures, c.gas_to.ensures.bytes, c.u64_bytes-3.ensures, c.u64_bytes-4.ensures, c.gas_to-2.ensures.bytes, c.u64_bytes-5.ensures, c.gas_to-3.ensures.bytes, c.u64_bytes-6.ensures, c.u32_bytes.ensures, c.u32_bytes-2.ensures) at c.put_all.ensures
