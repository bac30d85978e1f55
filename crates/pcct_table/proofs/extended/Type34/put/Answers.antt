use Rattle.pcct_table.proofs.extended.Type34.put.Goals as goal

pub returns : goal.returns
returns c = rw (c.u32_bytes.ensures, c.u8_bytes.ensures, c.u64_bytes.ensures, c.u32_bytes-2.ensures, c.gas_to.ensures.bytes, c.u64_bytes-2.ensures, c.u64_bytes-3.ensures, c.u32_bytes-3.ensures, c.u32_bytes-4.ensures, c.u32_bytes-5.ensures, c.gas_to-2.ensures.bytes, c.u64_bytes-4.ensures, c.u64_bytes-5.ensures, c.gas_to-3.ensures.bytes, c.u64_bytes-6.ensures, c.gas_to-4.ensures.bytes, c.u64_bytes-7.ensures, c.u64_bytes-8.ensures, c.gas_to-5.ensures.bytes, c.u64_bytes-9.ensures) at c.put_all.ensures
