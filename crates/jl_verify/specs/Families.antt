-- Which instructions are checked alike (JVMS 4.10.1.9).
use Rattle.std.specs.Prelude.{ℕ, List, [], ◌∷◌, Option, option_map, find, Bool, ◌||◌, ◌==◌}
use Rattle.jl_optable.specs.declared.ops.TheConstants as ops
use Rattle.jl_optable.specs.Rows.{is_within}
use Rattle.jl_verify.specs.declared.family.Family.{Family}
use Rattle.jl_verify.specs.declared.family.Family.TheVariants as families
use Rattle.jl_verify.specs.declared.family.ValueKind.TheVariants as kinds
use Rattle.jl_verify.specs.declared.family.Elements.TheVariants as elements
use Rattle.jl_verify.specs.declared.family.Compute.TheVariants as computes
use Rattle.jl_verify.specs.declared.family.Shuffle.TheVariants as shuffles
use Rattle.jl_verify.specs.declared.family.FamilyRow.{FamilyRow}

-- the opcodes of a family, from the first to the last
abbrev row : ℕ → ℕ → Family → FamilyRow
row first last family = record { first = first; last = last; family = family }

-- Opcodes that compute with float or double are in none, since they make their method a stub.
unfoldable pub family_rows : List FamilyRow
family_rows =
    row ops.NOP ops.NOP families.Nothing
    ∷ row ops.ACONST_NULL ops.ACONST_NULL families.PushNull
    ∷ row ops.ICONST_M1 ops.ICONST_5 families.PushInt
    ∷ row ops.LCONST_0 ops.LCONST_1 families.PushLong
    ∷ row ops.BIPUSH ops.SIPUSH families.PushInt
    ∷ row ops.LDC ops.LDC_W families.PushConstant
    ∷ row ops.LDC2_W ops.LDC2_W families.PushLong
    ∷ row ops.ILOAD ops.ILOAD (families.Load kinds.Int)
    ∷ row ops.LLOAD ops.LLOAD (families.Load kinds.Long)
    ∷ row ops.ALOAD ops.ALOAD (families.Load kinds.Reference)
    ∷ row ops.ILOAD_0 ops.ILOAD_3 (families.Load kinds.Int)
    ∷ row ops.LLOAD_0 ops.LLOAD_3 (families.Load kinds.Long)
    ∷ row ops.ALOAD_0 ops.ALOAD_3 (families.Load kinds.Reference)
    ∷ row ops.IALOAD ops.IALOAD (families.LoadElement elements.Ints)
    ∷ row ops.LALOAD ops.LALOAD (families.LoadElement elements.Longs)
    ∷ row ops.AALOAD ops.AALOAD (families.LoadElement elements.References)
    ∷ row ops.BALOAD ops.BALOAD (families.LoadElement elements.Bytes)
    ∷ row ops.CALOAD ops.CALOAD (families.LoadElement elements.Chars)
    ∷ row ops.SALOAD ops.SALOAD (families.LoadElement elements.Shorts)
    ∷ row ops.ISTORE ops.ISTORE (families.Store kinds.Int)
    ∷ row ops.LSTORE ops.LSTORE (families.Store kinds.Long)
    ∷ row ops.ASTORE ops.ASTORE (families.Store kinds.Reference)
    ∷ row ops.ISTORE_0 ops.ISTORE_3 (families.Store kinds.Int)
    ∷ row ops.LSTORE_0 ops.LSTORE_3 (families.Store kinds.Long)
    ∷ row ops.ASTORE_0 ops.ASTORE_3 (families.Store kinds.Reference)
    ∷ row ops.IASTORE ops.IASTORE (families.StoreElement elements.Ints)
    ∷ row ops.LASTORE ops.LASTORE (families.StoreElement elements.Longs)
    ∷ row ops.AASTORE ops.AASTORE (families.StoreElement elements.References)
    ∷ row ops.BASTORE ops.BASTORE (families.StoreElement elements.Bytes)
    ∷ row ops.CASTORE ops.CASTORE (families.StoreElement elements.Chars)
    ∷ row ops.SASTORE ops.SASTORE (families.StoreElement elements.Shorts)
    ∷ row ops.POP ops.POP (families.Shuffle shuffles.Pop)
    ∷ row ops.POP2 ops.POP2 (families.Shuffle shuffles.Pop2)
    ∷ row ops.DUP ops.DUP (families.Shuffle shuffles.Dup)
    ∷ row ops.DUP_X1 ops.DUP_X1 (families.Shuffle shuffles.DupX1)
    ∷ row ops.DUP_X2 ops.DUP_X2 (families.Shuffle shuffles.DupX2)
    ∷ row ops.DUP2 ops.DUP2 (families.Shuffle shuffles.Dup2)
    ∷ row ops.DUP2_X1 ops.DUP2_X1 (families.Shuffle shuffles.Dup2X1)
    ∷ row ops.DUP2_X2 ops.DUP2_X2 (families.Shuffle shuffles.Dup2X2)
    ∷ row ops.SWAP ops.SWAP (families.Shuffle shuffles.Swap)
    ∷ row ops.IADD ops.IADD (families.Compute computes.IntsToInt)
    ∷ row ops.LADD ops.LADD (families.Compute computes.LongsToLong)
    ∷ row ops.ISUB ops.ISUB (families.Compute computes.IntsToInt)
    ∷ row ops.LSUB ops.LSUB (families.Compute computes.LongsToLong)
    ∷ row ops.IMUL ops.IMUL (families.Compute computes.IntsToInt)
    ∷ row ops.LMUL ops.LMUL (families.Compute computes.LongsToLong)
    ∷ row ops.IDIV ops.IDIV (families.Compute computes.IntsToInt)
    ∷ row ops.LDIV ops.LDIV (families.Compute computes.LongsToLong)
    ∷ row ops.IREM ops.IREM (families.Compute computes.IntsToInt)
    ∷ row ops.LREM ops.LREM (families.Compute computes.LongsToLong)
    ∷ row ops.INEG ops.INEG (families.Compute computes.IntToInt)
    ∷ row ops.LNEG ops.LNEG (families.Compute computes.LongToLong)
    ∷ row ops.ISHL ops.ISHL (families.Compute computes.IntsToInt)
    ∷ row ops.LSHL ops.LSHL (families.Compute computes.LongAndIntToLong)
    ∷ row ops.ISHR ops.ISHR (families.Compute computes.IntsToInt)
    ∷ row ops.LSHR ops.LSHR (families.Compute computes.LongAndIntToLong)
    ∷ row ops.IUSHR ops.IUSHR (families.Compute computes.IntsToInt)
    ∷ row ops.LUSHR ops.LUSHR (families.Compute computes.LongAndIntToLong)
    ∷ row ops.IAND ops.IAND (families.Compute computes.IntsToInt)
    ∷ row ops.LAND ops.LAND (families.Compute computes.LongsToLong)
    ∷ row ops.IOR ops.IOR (families.Compute computes.IntsToInt)
    ∷ row ops.LOR ops.LOR (families.Compute computes.LongsToLong)
    ∷ row ops.IXOR ops.IXOR (families.Compute computes.IntsToInt)
    ∷ row ops.LXOR ops.LXOR (families.Compute computes.LongsToLong)
    ∷ row ops.IINC ops.IINC families.Count
    ∷ row ops.I2L ops.I2L (families.Compute computes.IntToLong)
    ∷ row ops.L2I ops.L2I (families.Compute computes.LongToInt)
    ∷ row ops.I2B ops.I2S (families.Compute computes.IntToInt)
    ∷ row ops.LCMP ops.LCMP (families.Compute computes.LongsToInt)
    ∷ row ops.IFEQ ops.IFLE families.TakeInt
    ∷ row ops.IF_ICMPEQ ops.IF_ICMPLE families.TakeInts
    ∷ row ops.IF_ACMPEQ ops.IF_ACMPNE families.TakeReferences
    ∷ row ops.GOTO ops.GOTO families.Nothing
    ∷ row ops.TABLESWITCH ops.LOOKUPSWITCH families.TakeInt
    ∷ row ops.IRETURN ops.IRETURN (families.Return kinds.Int)
    ∷ row ops.LRETURN ops.LRETURN (families.Return kinds.Long)
    ∷ row ops.ARETURN ops.ARETURN (families.Return kinds.Reference)
    ∷ row ops.RETURN ops.RETURN families.ReturnNothing
    ∷ row ops.GETSTATIC ops.GETSTATIC families.GetStatic
    ∷ row ops.PUTSTATIC ops.PUTSTATIC families.PutStatic
    ∷ row ops.GETFIELD ops.GETFIELD families.GetField
    ∷ row ops.PUTFIELD ops.PUTFIELD families.PutField
    ∷ row ops.INVOKEVIRTUAL ops.INVOKEVIRTUAL families.InvokeOn
    ∷ row ops.INVOKESPECIAL ops.INVOKESPECIAL families.InvokeSpecial
    ∷ row ops.INVOKESTATIC ops.INVOKESTATIC families.InvokeStatic
    ∷ row ops.INVOKEINTERFACE ops.INVOKEINTERFACE families.InvokeOn
    ∷ row ops.NEW ops.NEW families.New
    ∷ row ops.NEWARRAY ops.NEWARRAY families.NewArray
    ∷ row ops.ANEWARRAY ops.ANEWARRAY families.NewReferenceArray
    ∷ row ops.ARRAYLENGTH ops.ARRAYLENGTH families.Length
    ∷ row ops.ATHROW ops.ATHROW families.Throw
    ∷ row ops.CHECKCAST ops.CHECKCAST families.Cast
    ∷ row ops.INSTANCEOF ops.INSTANCEOF families.InstanceOf
    ∷ row ops.MONITORENTER ops.MONITOREXIT families.TakeReference
    ∷ row ops.MULTIANEWARRAY ops.MULTIANEWARRAY families.NewArrays
    ∷ row ops.IFNULL ops.IFNONNULL families.TakeReference
    ∷ row ops.GOTO_W ops.GOTO_W families.Nothing
    ∷ []

abbrev pub has_op : ℕ → FamilyRow → Bool
has_op op r = is_within r.first r.last op

-- the family of the instructions with an opcode
abbrev pub family_of : ℕ → Option Family
family_of op = option_map (λ (r : FamilyRow). r.family) (find (has_op op) family_rows)

-- a return of a value or of none
abbrev pub is_return : ℕ → Bool
is_return op = is_within ops.IRETURN ops.RETURN op

-- control does not go on to the next instruction: a goto, a switch, a return, a throw
abbrev pub leaves : ℕ → Bool
leaves op = (op == ops.GOTO) || ((op == ops.GOTO_W) || (is_within ops.TABLESWITCH ops.LOOKUPSWITCH op || (is_return op || (op == ops.ATHROW))))
